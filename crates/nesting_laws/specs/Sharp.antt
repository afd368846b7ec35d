-- Two regions against which stronger statements fail: a row may lie inside one that is not its parent, and a header may reach past the bytes that its row holds.
use Rattle.std.specs.Prelude.{ℕ, ◌≤◌, ◌<◌, List, [], ◌∷◌, ◌++◌, replicate}
use Rattle.region_rows.specs.declared.Span.{Span}
use Rattle.region.specs.Listing.{listed}
use Rattle.region_laws.specs.Clauses.{rows_of}
use Rattle.nesting_laws.specs.Nesting.{Holds, ShareNoByte, header_end, Inside, At, Parent}

-- the rows of a region, with no rules, and limit and room enough
abbrev pub rows_in : List ℕ → List Span
rows_in bytes = rows_of (listed [] bytes 100 (replicate 100 0))

-- a Box of 24 bytes, in it one of 16, in that a record of 8
abbrev pub boxes : List ℕ
boxes = (1 ∷ 0x31 ∷ 0x12 ∷ 0x3d ∷ 6 ∷ 0 ∷ 0 ∷ 0 ∷ []) ++ (1 ∷ 0x31 ∷ 0x12 ∷ 0x3d ∷ 4 ∷ 0 ∷ 0 ∷ 0 ∷ []) ++ (1 ∷ 0x31 ∷ 0x12 ∷ 3 ∷ 2 ∷ 0 ∷ 0 ∷ 0 ∷ [])

-- a row lies inside another that is not its parent
pub record NotItsParent (rows : List Span) : Type 0 where
  pub i : ℕ
  pub j : ℕ
  pub a : Span
  pub b : Span
  pub outer : At 0 rows i a
  pub inner : At 0 rows j b
  pub inside : Inside b a
  pub not_parent : Parent 0 rows i j → ⊥

-- two records of 4 bytes with headers of 8, so that the second stands in the header of the first
abbrev pub shorts : List ℕ
shorts = 1 ∷ 0 ∷ 0 ∷ 0 ∷ 1 ∷ 0 ∷ 0 ∷ 0 ∷ 1 ∷ 0 ∷ 0 ∷ 0 ∷ []

-- of two rows that share no byte one holds a byte of the other's header
pub record HeaderReaches (rows : List Span) : Type 0 where
  pub i : ℕ
  pub j : ℕ
  pub a : Span
  pub b : Span
  pub first : At 0 rows i a
  pub second : At 0 rows j b
  pub apart : ShareNoByte a b
  pub byte : ℕ
  pub of_header : (a.offset ≤ byte) × (byte < header_end a)
  pub held : Holds b byte
