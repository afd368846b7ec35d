-- A span row's numbers and a table of rows (document 01, 'The nested listing'; document 02, C-17).
use Rattle.std.specs.Prelude.{ℕ, zero, suc, ◌+◌, ◌*◌, ◌/◌, List, [], ◌∷◌, ◌++◌, length, drop, get_or}
use Rattle.std.proofs.lemmas.List.Edits.{sets}
use Rattle.region_rows.specs.declared.Span.{Span}

-- ---- one row

-- a row's numbers, in the table's order
abbrev pub numbers : Span → List ℕ
numbers r = r.level ∷ r.parent ∷ r.offset ∷ r.held ∷ r.declared ∷ r.size ∷ r.word ∷ r.socket ∷ r.die ∷ r.flags ∷ []

-- how many they are
abbrev pub width : ℕ
width = 10

-- the parent row at the top
abbrev pub top : ℕ
top = 4294967295

-- ---- a table

-- the rows that a table has
abbrev pub capacity : List ℕ → ℕ
capacity t = length t / width

-- no row has the number that stands for no parent
abbrev pub most_rows : ℕ
most_rows = 4294967294

-- the table from a row on
abbrev pub from : List ℕ → ℕ → List ℕ
from t row = drop (row * width) t

-- the row with a number
abbrev pub span_at : List ℕ → ℕ → Span
span_at t row =
    let at = row * width in
    record {
      level = get_or t at 0;
      parent = get_or t (at + 1) 0;
      offset = get_or t (at + 2) 0;
      held = get_or t (at + 3) 0;
      declared = get_or t (at + 4) 0;
      size = get_or t (at + 5) 0;
      word = get_or t (at + 6) 0;
      socket = get_or t (at + 7) 0;
      die = get_or t (at + 8) 0;
      flags = get_or t (at + 9) 0;
    }

-- the table with a row written
abbrev pub with_span : List ℕ → ℕ → Span → List ℕ
with_span t row r = sets t (row * width) (numbers r)

-- ---- several rows

-- a table with rows written one after the other, from one on
unfoldable pub stored : List ℕ → ℕ → List Span → List ℕ
stored t row [] = t
stored t row (r ∷ rs) = stored (with_span t row r) (row + 1) rs

-- the first n rows
unfoldable pub spans_in : List ℕ → ℕ → List Span
spans_in t zero = []
spans_in t (suc n) = spans_in t n ++ (span_at t n ∷ [])

-- the numbers of some rows, row after row
unfoldable pub flat : List Span → List ℕ
flat [] = []
flat (r ∷ rs) = numbers r ++ flat rs

-- a table with rows laid at its start
unfoldable pub laid : List Span → List ℕ → List ℕ
laid rs t = flat rs ++ from t (length rs)
