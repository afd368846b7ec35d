-- A layout as a table of fields: what it reads of some bytes, and what it writes into them.
use Rattle.std.specs.Prelude.{ℕ, zero, suc, ◌+◌, ◌/◌, ◌%◌, ◌^◌, ◌≤◌, ◌<◌, List, [], ◌∷◌, ◌++◌, Bool, ◌&&◌, eqb}
use Rattle.le.specs.Le.{le, put}

-- a number of `width` bytes, least byte first, from `at` on
pub record Field : Type 0 where
  pub at : ℕ
  pub width : ℕ

abbrev pub field : ℕ → ℕ → Field
field at width = record { at = at; width = width }

-- ---- where the fields stand

-- the fields ascend from `lo` on, none overlaps another, and all end by `n`
abbrev pub Fits : ℕ → List Field → ℕ → Type 0
Fits lo [] n = lo ≤ n
Fits lo (f ∷ fs) n = (lo ≤ f.at) × Fits (f.at + f.width) fs n

-- does each field start where the one before it ends, the first at `lo`, and the last end at `n`?
abbrev pub full_from : ℕ → List Field → ℕ → Bool
full_from lo [] n = eqb lo n
full_from lo (f ∷ fs) n = eqb lo f.at && full_from (f.at + f.width) fs n

-- do the fields take up the first `n` bytes without a gap?
abbrev pub full : List Field → ℕ → Bool
full fs n = full_from 0 fs n

-- ---- their values

-- a value for each field, and each fits its field
abbrev pub Below : List Field → List ℕ → Type 0
Below [] [] = Unit {0}
Below [] (v ∷ vs) = ⊥
Below (f ∷ fs) [] = ⊥
Below (f ∷ fs) (v ∷ vs) = (v < 256 ^ f.width) × Below fs vs

-- the fields' values in some bytes
unfoldable pub read_all : List Field → List ℕ → List ℕ
read_all [] bs = []
read_all (f ∷ fs) bs = le f.width bs f.at ∷ read_all fs bs

-- the bytes with the fields' values written
unfoldable pub write_all : List Field → List ℕ → List ℕ → List ℕ
write_all [] vs bs = bs
write_all (f ∷ fs) [] bs = bs
write_all (f ∷ fs) (v ∷ vs) bs = write_all fs vs (put f.width bs f.at v)

-- ---- their bytes

-- the lowest `w` bytes of a number, least first
unfoldable pub digits : ℕ → ℕ → List ℕ
digits zero x = []
digits (suc w) x = digits w x ++ (x / 256 ^ w % 256 ∷ [])

-- the bytes of the fields' values, one field after the other
unfoldable pub bytes_of : List Field → List ℕ → List ℕ
bytes_of [] vs = []
bytes_of (f ∷ fs) [] = []
bytes_of (f ∷ fs) (v ∷ vs) = digits f.width v ++ bytes_of fs vs
