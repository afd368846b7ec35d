-- Rows as boxes within boxes (document 02, C-24): how two rows stand to each other, and a row to its parent.
use Rattle.std.specs.Prelude.{ℕ, suc, ◌+◌, ◌≤◌, ◌<◌, ◌≡◌, true, List}
use Rattle.std.proofs.Math.Option.{some}
use Rattle.std.proofs.Math.ListN.{get_elem?}
use Rattle.header_judge.specs.Head.{is_box}
use Rattle.region_rows.specs.declared.Span.{Span}
use Rattle.region_rows.specs.Rows.{top}

-- ---- the bytes of rows

-- where the bytes that a row holds end, and where its header does
abbrev pub end : Span → ℕ
end r = r.offset + r.held

abbrev pub header_end : Span → ℕ
header_end r = r.offset + r.size

-- a row holds byte k of the input
abbrev pub Holds : Span → ℕ → Type 0
Holds r k = (r.offset ≤ k) × (k < end r)

-- they share no byte
abbrev pub ShareNoByte : Span → Span → Type 0
ShareNoByte a b = (k : ℕ) → Holds a k → Holds b k → ⊥

-- the first lies wholly in the second's bytes after its header
abbrev pub Inside : Span → Span → Type 0
Inside b a = (header_end a ≤ b.offset) × (end b ≤ end a)

-- ---- rows by their numbers, from that of the first on

module _ (first : ℕ) (rows : List Span) where
  -- row number i
  pub record At (i : ℕ) (r : Span) : Type 0 where
    pub place : ℕ
    pub number : i ≡ first + place
    pub is : get_elem? rows place ≡ some r

  -- row i has row p for its parent: the number stands in it, and is not that for none
  pub record Parent (p i : ℕ) : Type 0 where
    pub row : Span
    pub at : At i row
    pub number : row.parent ≡ p
    pub named : p ≡ top → ⊥

  -- row p is an ancestor of row i: its parent, or an ancestor of its parent
  pub data Ancestor (p : ℕ) : ℕ → Type 0 where
    direct : {i : ℕ} → Parent p i → Ancestor p i
    further : {q i : ℕ} → Ancestor p q → Parent q i → Ancestor p i

  -- how rows i and j stand to each other
  pub data Stand (i j : ℕ) (a b : Span) : Type 0 where
    apart : ShareNoByte a b → Stand i j a b
    second_inside : Inside b a → Ancestor i j → Stand i j a b
    first_inside : Inside a b → Ancestor j i → Stand i j a b

  -- ---- what holds of all rows

  -- any two different rows share no byte, or one lies inside the other and has it among its ancestors
  abbrev pub NeverCross : Type 0
  NeverCross = (i j : ℕ) (a b : Span) → At i a → At j b → (i ≡ j → ⊥) → Stand i j a b

  -- a row lies inside each of its ancestors
  abbrev pub InsideAncestors : Type 0
  InsideAncestors = (p i : ℕ) (a b : Span) → At p a → At i b → Ancestor p i → Inside b a

  -- within a level rows come in the order of their offsets, each past the end of those before it
  abbrev pub LevelsAscend : Type 0
  LevelsAscend = (i j : ℕ) (a b : Span) → At i a → At j b → i < j → a.level ≡ b.level → (a.offset < b.offset) × (end a ≤ b.offset)

  -- a row is at level 0 and has no parent, or its parent stands before it
  pub data Hangs (i : ℕ) (r : Span) : Type 0 where
    outermost : r.level ≡ 0 → r.parent ≡ top → Hangs i r
    child : (a : Span) → At r.parent a → r.parent < i → Hangs i r

  abbrev pub ParentsBefore : Type 0
  ParentsBefore = (i : ℕ) (r : Span) → At i r → Hangs i r

  -- a row's level is one more than its parent's
  abbrev pub LevelsDeepen : Type 0
  LevelsDeepen = (p i : ℕ) (a b : Span) → At p a → At i b → b.parent ≡ p → b.level ≡ suc a.level

  -- a row's parent is a Box
  abbrev pub ParentsAreBoxes : Type 0
  ParentsAreBoxes = (p i : ℕ) (a b : Span) → At p a → At i b → b.parent ≡ p → is_box a.word a.flags ≡ true

  -- no row between i and j has the parent p
  abbrev pub NoneBetween : ℕ → ℕ → ℕ → Type 0
  NoneBetween i j p = (k : ℕ) (c : Span) → At k c → i < k → k < j → c.parent ≡ p → ⊥

  -- the first child of a row starts where its header ends
  abbrev pub FirstAfterHeader : Type 0
  FirstAfterHeader = (i j : ℕ) (a b : Span) → At i a → At j b → i < j → b.parent ≡ i → NoneBetween i j i → b.offset ≡ header_end a

  -- children of one row lie one after the other: each starts where the one before it ends
  abbrev pub ChildrenFollow : Type 0
  ChildrenFollow = (i j : ℕ) (a b : Span) → At i a → At j b → i < j → a.parent ≡ b.parent → NoneBetween i j b.parent → b.offset ≡ end a

  -- the first row starts at an offset
  abbrev pub FirstAtStart : ℕ → Type 0
  FirstAtStart low = (r : Span) → At first r → r.offset ≡ low

  -- each row holds a byte, and what it holds lies between two offsets
  abbrev pub RowsLie : ℕ → ℕ → Type 0
  RowsLie low high = (i : ℕ) (r : Span) → At i r → (0 < r.held) × (low ≤ r.offset) × (end r ≤ high)

-- all of it, of the rows of a region that lies between two offsets
pub record Nested (first low high : ℕ) (rows : List Span) : Type 0 where
  pub never_cross : NeverCross first rows
  pub inside_ancestors : InsideAncestors first rows
  pub levels_ascend : LevelsAscend first rows
  pub parents_before : ParentsBefore first rows
  pub levels_deepen : LevelsDeepen first rows
  pub parents_are_boxes : ParentsAreBoxes first rows
  pub first_after_header : FirstAfterHeader first rows
  pub children_follow : ChildrenFollow first rows
  pub first_at_start : FirstAtStart first rows low
  pub rows_lie : RowsLie first rows low high
