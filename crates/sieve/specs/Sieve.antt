-- The sieve of a rule table: the bits that all its rows look at, and which slots no row wants.
use Rattle.std.specs.Prelude.{ℕ, ◌*◌, ◌/◌, ◌%◌, ◌≡◌, List, [], ◌∷◌, Bool, true, false, get_or, set, replicate}
use Rattle.std.specs.Int.Bits.{bit_and}
use Rattle.rules.specs.Rules.{Rule, rules_of}
use Rattle.sieve.specs.declared.Sieve.{Sieve}

-- the bits of a mask that some rows look at, too
unfoldable pub shared_by : ℕ → List Rule → ℕ
shared_by mask [] = mask
shared_by mask (r ∷ rs) = shared_by (bit_and mask r.mask) rs

-- the bits that all rows of a table look at
abbrev pub shared_mask : List ℕ → ℕ
shared_mask rules = shared_by 4294967295 (rules_of rules)

-- the slot of a number, by its bits under a mask
abbrev pub slot_of : ℕ → ℕ → ℕ
slot_of mask number = bit_and number mask * 2654435769 / 67108864 % 64

-- some slots without those of the numbers that some rows want
unfoldable pub taken_by : ℕ → List Bool → List Rule → List Bool
taken_by mask slots [] = slots
taken_by mask slots (r ∷ rs) = taken_by mask (set slots (slot_of mask r.wanted) false) rs

-- the slots of a table: which are free
abbrev pub slots_of : ℕ → List ℕ → List Bool
slots_of mask rules = taken_by mask (replicate 64 true) (rules_of rules)

-- is a word's slot free?
abbrev pub is_free : Sieve → ℕ → Bool
is_free sieve word = get_or sieve.slots (slot_of sieve.mask word) false

-- the sieve is of this table
abbrev pub Sifts : List ℕ → Sieve → Type 0
Sifts rules sieve = (sieve.mask ≡ shared_mask rules) × (sieve.slots ≡ slots_of sieve.mask rules)
