-- The sections of a normal form, from those that it is made of.
use Rattle.std.specs.Prelude.{ℕ, ◌+◌, List, [], ◌∷◌}
use Rattle.cper_sections.specs.Sections.{body_of}
use Rattle.cper_sections.specs.declared.kept.Section.{Section}

-- the same sizes; descriptors from `row` on, bodies from `to` on, one after the other
unfoldable pub repacked : ℕ → ℕ → List Section → List Section
repacked row to [] = []
repacked row to (k ∷ ks) = record { index = row; offset = to; size = k.size } ∷ repacked (row + 1) (to + k.size) ks

-- the bodies of some sections, in order
unfoldable pub body_list : List ℕ → List Section → List (List ℕ)
body_list cper [] = []
body_list cper (k ∷ ks) = body_of cper k ∷ body_list cper ks
