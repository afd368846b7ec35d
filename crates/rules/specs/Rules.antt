-- The rule table (document 01, 'Rule table'): the flags that it gives a version word, and when it is valid.
use Rattle.std.specs.Prelude.{ℕ, ◌/◌, ◌%◌, List, [], ◌∷◌, Bool, true, cond, not, ◌&&◌, eqb, leb, length, get_or}
use Rattle.basics.specs.Bits.{has}
use Rattle.std.specs.Int.Bits.{bit_and, bit_or}

-- ---- the four flags

abbrev pub legacy_server : ℕ
legacy_server = 1

abbrev pub legacy_gpu : ℕ
legacy_gpu = 2

abbrev pub legacy_server_box : ℕ
legacy_server_box = 4

abbrev pub sizes_in_bytes : ℕ
sizes_in_bytes = 8

-- ---- rows

pub record Rule : Type 0 where
  pub mask : ℕ
  pub wanted : ℕ
  pub flags : ℕ

abbrev pub rule : ℕ → ℕ → ℕ → Rule
rule mask wanted flags = record { mask = mask; wanted = wanted; flags = flags }

-- three numbers as a row
abbrev pub row : List ℕ → Rule
row numbers = rule (get_or numbers 0 0) (get_or numbers 1 0) (get_or numbers 2 0)

-- the whole rows of a table
unfoldable pub rules_of : List ℕ → List Rule
rules_of [] = []
rules_of (_ ∷ []) = []
rules_of (_ ∷ _ ∷ []) = []
rules_of (mask ∷ wanted ∷ flags ∷ rest) = rule mask wanted flags ∷ rules_of rest

-- ---- the flags of a version word

-- does a row apply to a word?
abbrev pub applies : ℕ → Rule → Bool
applies word r = eqb (bit_and word r.mask) r.wanted

-- some flags, with those of a row if it applies
abbrev pub with_rule : ℕ → ℕ → Rule → ℕ
with_rule word all r = cond (applies word r) (bit_or all r.flags) all

-- some flags, with those of the rows that apply
unfoldable pub with_rules : ℕ → ℕ → List Rule → ℕ
with_rules word all [] = all
with_rules word all (r ∷ rs) = with_rules word (with_rule word all r) rs

-- the flags of a word: the union over the rows that apply
unfoldable pub flags_of : List ℕ → ℕ → ℕ
flags_of rules word = with_rules word 0 (rules_of rules)

-- ---- a valid table

-- is every flags number at most 15?
unfoldable pub flags_small : List Rule → Bool
flags_small [] = true
flags_small (r ∷ rs) = leb r.flags 15 && flags_small rs

-- whole rows, at most 64 of them, every flags number at most 15
unfoldable pub valid_of : List ℕ → Bool
valid_of rules = eqb (length rules % 3) 0 && (leb (length rules / 3) 64 && flags_small (rules_of rules))

-- does no row have a flag?
unfoldable pub none_has : ℕ → List Rule → Bool
none_has flag [] = true
none_has flag (r ∷ rs) = not (has r.flags flag) && none_has flag rs
