-- When some bytes start with a CPER record header (document 01, 'CPER' and answer 8), and how many sections it tells.
use Rattle.std.specs.Prelude.{ℕ, List, [], ◌∷◌, Bool, true, false, ◌&&◌, eqb, leb, length}
use Rattle.le.specs.Le.{le}

-- the bytes of the record header
abbrev pub header_size : ℕ
header_size = 128

-- the bytes of "CPER"
abbrev pub signature : List ℕ
signature = 67 ∷ 80 ∷ 69 ∷ 82 ∷ []

-- the number that ends the signature, at byte 6
abbrev pub signature_end : ℕ
signature_end = 0xFFFF_FFFF

unfoldable pub starts_with : List ℕ → List ℕ → Bool
starts_with [] bs = true
starts_with (x ∷ xs) [] = false
starts_with (x ∷ xs) (b ∷ bs) = eqb b x && starts_with xs bs

-- a whole header with both signatures
unfoldable pub is_cper : List ℕ → Bool
is_cper cper = leb header_size (length cper) && (starts_with signature cper && eqb (le 4 cper 6) signature_end)

-- the number of descriptors that the header tells
abbrev pub count_of : List ℕ → ℕ
count_of cper = le 2 cper 10
