-- The nested walk without tries, rows, limit or table: what is gathered where it opens a region and where it tries a header
-- (document 01, 'The nested listing').
use Rattle.std.specs.Prelude.{ℕ, zero, suc, ◌+◌, ◌-◌, List, [], ◌∷◌, ◌++◌, cond, eqb, leb, length, take, drop, Ok, Err}
use Rattle.header_judge.specs.declared.Summary.{Summary}
use Rattle.header_judge.specs.Head.{is_box, head_of, Head}
use Rattle.region_try.specs.Tries.{deepest}

-- by a header: one thing where the region stops there, else another, from what the header says of its record
unfoldable pub by_head : {A : Type 0} → Head → A → (Summary → A) → A
by_head (Err why) stops goes = stops
by_head (Ok s) stops goes = cond (eqb s.declared 0) stops (goes s)

-- from a header on: nothing where the region stops; else what a Box has inside, from its held bytes and its header's size, and what the rest has,
-- which is given the bytes to skip
abbrev pub following : {A : Type 0} → (List ℕ → ℕ → List A) → List ℕ → Head → (ℕ → List A) → List A
following box bytes head rest =
    by_head head [] (λ s. cond (is_box s.word s.flags) (box (take s.declared bytes) s.size) [] ++ rest (s.declared - 1))

-- inside a Box: from its own position, its held bytes and its header's size
abbrev pub Gather : Type 0 → Type 0
Gather A = ℕ → List ℕ → ℕ → List A

-- what a region's bytes give where it is opened, and a position where a header is tried
module _ {A : Type 0} (rules : List ℕ) (opened : List ℕ → List A) (tried : ℕ → List A) where
  -- in a region after `skip` of its bytes, of which the others start at `at`
  unfoldable pub in_region : Gather A → ℕ → List ℕ → ℕ → List A
  in_region box skip [] at = []
  in_region box (suc k) (b ∷ bs) at = in_region box k bs (at + 1)
  in_region box zero (b ∷ bs) at = tried at ++ following (box at) (b ∷ bs) (head_of rules (b ∷ bs)) (λ skip. in_region box skip bs (at + 1))

  -- inside a Box whose region has so many levels left: it is opened where there is one and the header is held
  unfoldable pub in_box : ℕ → Gather A
  in_box zero at held size = []
  in_box (suc levels) at held size = cond (leb size (length held)) (opened (drop size held) ++ in_region (in_box levels) 0 (drop size held) (at + size)) []

  -- in a whole input that starts at an offset
  unfoldable pub gathered : ℕ → List ℕ → List A
  gathered at bytes = opened bytes ++ in_region (in_box deepest) 0 bytes at
