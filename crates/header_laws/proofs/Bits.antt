-- A yes/no as a bit, and numbers that share a field with one: what is put together is taken apart again, and the other way round.
-- By arithmetic. Assumes nothing.
use mathlib.Core.Path.{◌≡◌, refl, ap, ap₂}
use mathlib.Core.Bool.{Bool, true, false}
use Prim.Native.Nat.{ℕ, zero, suc, ◌+◌, ◌*◌, ◌/◌, ◌%◌, ◌^◌, ◌≤◌, ◌<◌}
use native.Mathlib.Omega.{arith}
use lib.Dec.{eqb}
use Rattle.header_judge.specs.Version.{bit}
use Rattle.header.specs.Layouts.{status_of, status_word, low_count, complete_half, count_half}
use Rattle.header.specs.declared.Status.{Status}
use Rattle.header_laws.specs.Rounds.{clean_half}

-- ---- a bit as a yes/no

pub bit_eqb : (x : ℕ) → x < 2 → bit (eqb x 1) ≡ x
bit_eqb zero h = refl
bit_eqb (suc zero) h = refl
bit_eqb (suc (suc x)) h = absurd (omega arith)

pub eqb_bit : (b : Bool) (x : ℕ) → x ≡ bit b → eqb x 1 ≡ b
eqb_bit true x e = ap (λ (y : ℕ). eqb y 1) e
eqb_bit false x e = ap (λ (y : ℕ). eqb y 1) e

pub bit_le : (b : Bool) → bit b ≤ 1
bit_le true = omega arith
bit_le false = omega arith

-- ---- a status and complete

status_low : (s : ℕ) (c : Bool) → s < 2147483648 → (s + bit c * 2147483648) % 2147483648 ≡ s
status_low s c h = omega (arith, bit_le c)

status_top : (s : ℕ) (c : Bool) → s < 2147483648 → eqb ((s + bit c * 2147483648) / 2147483648 % 2) 1 ≡ c
status_top s c h = eqb_bit c ((s + bit c * 2147483648) / 2147483648 % 2) (omega (arith, bit_le c))

module _ (s : Status) (h : s.completion_status < 2147483648) where
  pub status_apart : status_of (status_word s) ≡ s
  status_apart =
      ap₂ (λ (n : ℕ) (b : Bool). record { completion_status = n; collection_complete = b })
      (status_low s.completion_status s.collection_complete h) (status_top s.completion_status s.collection_complete h)

  pub status_lt : status_word s < 256 ^ 4
  status_lt = omega (arith, bit_le s.collection_complete)

pub status_back : (w : ℕ) → w < 256 ^ 4 → status_word (status_of w) ≡ w
status_back w h = rw (bit_eqb (w / 2147483648 % 2) (omega arith)) (omega arith)

-- ---- a count and complete

pub half_low : (n : ℕ) (c : Bool) → n ≤ 127 → low_count (count_half n c) ≡ n
half_low n c h = omega (arith, bit_le c)

pub half_top : (n : ℕ) (c : Bool) → n ≤ 127 → complete_half (count_half n c) ≡ c
half_top n c h = eqb_bit c (count_half n c / 32768 % 2) (omega (arith, bit_le c))

pub half_lt : (n : ℕ) (c : Bool) → n ≤ 127 → count_half n c < 256 ^ 2
half_lt n c h = omega (arith, bit_le c)

pub half_back : (half : ℕ) → count_half (low_count half) (complete_half half) ≡ clean_half half
half_back half = rw (bit_eqb (half / 32768 % 2) (omega arith))
