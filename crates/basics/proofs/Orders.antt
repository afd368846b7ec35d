-- Two numbers are in one order or the other.
-- By the computed test. Assumes nothing.
use mathlib.Core.Path.{◌≡◌, refl}
use mathlib.Core.Bool.{Bool, true, false}
use mathlib.Core.Logic.{◌⊎◌, inl, inr}
use Prim.Native.Nat.{ℕ, ◌≤◌, ◌<◌}
use lib.Dec.{leb}
use borrow.Author.Tests.{leb-true, leb-false}

pub le_or_lt : (m n : ℕ) → (m ≤ n) ⊎ (n < m)
le_or_lt m n = by (leb m n) refl
  where
    by : (b : Bool) → leb m n ≡ b → (m ≤ n) ⊎ (n < m)
    by true e = inl (leb-true m n e)
    by false e = inr (leb-false m n e)
