-- The rows of a CPER's listing, region by region (document 02, C-15 and C-24).
use Rattle.std.specs.Prelude.{ℕ, ◌+◌, ◌≤◌, ◌≡◌, List, [], ◌∷◌, ◌⊎◌, length, take, drop}
use Rattle.region_rows.specs.declared.Span.{Span}
use Rattle.region_laws.specs.Clauses.{Every}
use Rattle.region_laws.specs.Whole.{all_rows}
use Rattle.cper_regions.specs.Regions.{Region}
use Rattle.nesting_laws.specs.Nesting.{Nested}

-- how many rows a region's walk finds
abbrev pub row_count : List ℕ → Region → ℕ
row_count rules g = length (all_rows rules g.bytes)

-- rows, numbered from that of the first on, are those of some regions in turn, and nested within each; none is left over
unfoldable pub NestedEach : List ℕ → List Region → ℕ → List Span → Type 0
NestedEach rules [] first rows = rows ≡ []
NestedEach rules (g ∷ gs) first rows =
    Nested first g.offset (g.offset + length g.bytes) (take (row_count rules g) rows)
    × NestedEach rules gs (first + row_count rules g) (drop (row_count rules g) rows)

-- ---- files whose sections do not overlap

-- two regions share no byte of the file
abbrev pub Separate : Region → Region → Type 0
Separate g h = (g.offset + length g.bytes ≤ h.offset) ⊎ (h.offset + length h.bytes ≤ g.offset)

-- no two of some regions do
unfoldable pub AllSeparate : List Region → Type 0
AllSeparate [] = Unit {0}
AllSeparate (g ∷ gs) = Every (Separate g) gs × AllSeparate gs
