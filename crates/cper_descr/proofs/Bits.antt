-- The known bits of a validation number, as its remainder and as the fields' numbers.
-- By the two values of a bit. Assumes nothing.
use mathlib.Core.Path.{◌≡◌, refl}
use mathlib.Core.Bool.{Bool, true, false}
use mathlib.Core.List.{List}
use Prim.Native.Nat.{ℕ, zero, suc, ◌+◌, ◌*◌, ◌/◌, ◌%◌, ◌<◌}
use native.Mathlib.Omega.{arith}
use lib.Dec.{eqb}
use Rattle.std.specs.Prelude.{is_some}
use Rattle.std.specs.Bool.{then_some}
use Rattle.basics.specs.Bits.{has}
use Rattle.cper_fields.specs.Fields.{number_if}

is_some-then_some : {A : Type 0} (held : Bool) (field : A) → is_some (then_some held field) ≡ held
is_some-then_some true field = refl
is_some-then_some false field = refl

bit : (b m : ℕ) → b < 2 → number_if (eqb b 1) m ≡ b * m
bit zero m h = omega arith
bit (suc zero) m h = omega arith
bit (suc (suc b)) m h = absurd (omega arith)

pub known_bits : (v : ℕ) (fru_id fru_text : List ℕ)
    → v % 4 ≡ number_if (is_some (then_some (has v 1) fru_id)) 1 + number_if (is_some (then_some (has v 2) fru_text)) 2
known_bits v fru_id fru_text =
    rw (is_some-then_some (has v 1) fru_id, is_some-then_some (has v 2) fru_text, bit (v / 1 % 2) 1 (omega arith), bit (v / 2 % 2) 2 (omega arith)) (omega arith)
