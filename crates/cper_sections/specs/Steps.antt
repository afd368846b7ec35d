-- What the loops over the kept sections go by: those still to come, the next of them, a section that lies in the input.
use Rattle.std.specs.Prelude.{ℕ, ◌+◌, ◌-◌, ◌≤◌, ◌<◌, ◌≡◌, List, [], ◌∷◌, length, true, Option, Some, None}
use Rattle.cper_descr.specs.Descriptor.{descriptor_size}
use Rattle.cper_sections.specs.Sections.{descriptor_at, told, keeps, kept_from}
use Rattle.cper_sections.specs.declared.kept.Section.{Section}

-- a section's descriptor and body lie in the input
pub record Within (cper : List ℕ) (k : Section) : Type 0 where
  pub descriptor : descriptor_at k.index + descriptor_size ≤ length cper
  pub body : k.offset + k.size ≤ length cper

-- so do those of some sections
abbrev pub AllWithin : List ℕ → List Section → Type 0
AllWithin cper [] = Unit {0}
AllWithin cper (k ∷ ks) = Within cper k × AllWithin cper ks

-- the kept sections from an index on, below a count
abbrev pub kept_in : List ℕ → ℕ → ℕ → List Section
kept_in cper index count = kept_from cper index (count - index)

-- from an index on, the kept sections are none, or that of the index told and those after it
abbrev pub NextIndex : List ℕ → ℕ → ℕ → Option ℕ → Type 0
NextIndex cper from count None = kept_in cper from count ≡ []
NextIndex cper from count (Some i) = (from ≤ i) × (i < count) × (keeps cper i ≡ true) × (kept_in cper from count ≡ told cper i ∷ kept_in cper (i + 1) count)

-- the next kept section, and then those after it
pub record Found (cper : List ℕ) (from count : ℕ) (k : Section) : Type 0 where
  pub on : from ≤ k.index
  pub below : k.index < count
  pub within : Within cper k
  pub rest : kept_in cper from count ≡ k ∷ kept_in cper (k.index + 1) count

-- from an index on, the kept sections are none, or the next and those after it
abbrev pub NextKept : List ℕ → ℕ → ℕ → Option Section → Type 0
NextKept cper from count None = kept_in cper from count ≡ []
NextKept cper from count (Some k) = Found cper from count k
