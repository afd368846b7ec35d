-- The digits that `io` writes of a number of 32 bits in hexadecimal are eight.
-- It writes no more than the fewest that hold the number, and never fewer than eight. Assumes nothing.
use mathlib.Core.Path.{◌≡◌, refl, ap}
use mathlib.Core.Logic.{⊎_elim}
use Prim.Native.Nat.{ℕ, zero, suc, ◌-◌, ◌/◌, ◌^◌, ◌≤◌, ◌<◌}
use native.Mathlib.Nat.{pow-le-pow_right}
use native.Mathlib.Omega.{arith}
use lib.Dec.{lit<}
use lib.ListN.{length, length-append}
use Rattle.io.specs.Digits.{last_digits, IsDigitCount}
use Rattle.basics.proofs.Orders.{le_or_lt}
use Rattle.text.specs.Number.{hex}

length_digits : (base k n : ℕ) → length (last_digits base k n) ≡ k
length_digits base zero n = refl
length_digits base (suc k) n = rw (length-append, length_digits base k (n / base)) (omega arith)

-- what `io` writes
pub hex_is : (n k : ℕ) → n < 2 ^ 32 → IsDigitCount 16 8 n k → last_digits 16 k n ≡ hex n
unfolding hex
hex_is n k h f = ap (λ (i : ℕ). last_digits 16 i n) eight
  where
    more : 8 < k → ⊥
    more g =
        let a : 16 ^ (k - 1) ≤ n = f.2 g in
        let b : 16 ^ 8 ≤ 16 ^ (k - 1) = pow-le-pow_right (lit< tt) {i = 8} {j = k - 1} (omega arith) in
        omega arith

    eight : k ≡ 8
    eight = ⊎_elim (λ (g : k ≤ 8). omega arith) (λ (g : 8 < k). absurd (more g)) (le_or_lt k 8)

pub length-hex : (n : ℕ) → length (hex n) ≡ 8
unfolding hex
length-hex n = length_digits 16 8 n
