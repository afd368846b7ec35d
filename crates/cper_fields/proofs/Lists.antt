-- A list that agrees with another from a place on: what stands there.
-- By laws of `take` and `drop`. Assumes nothing.
use mathlib.Core.Path.{◌≡◌, sym, ap, ◌∙◌}
use mathlib.Core.List.{List, ◌++◌}
use Prim.Native.Nat.{ℕ, ◌+◌, ◌-◌, ◌≤◌}
use native.Mathlib.Omega.{arith}
use lib.ListN.{length, drop}
use lib.Seq.{drop_at, drop-drop}

pub drop_past : {A : Type 0} (front bs : List A) (j n : ℕ) → length front ≡ j → j ≤ n → drop n (front ++ drop j bs) ≡ drop n bs
drop_past front bs j n e h =
    let past : j + (n - j) ≡ n = omega arith in
    rw (← past)
    (sym (drop-drop (n - j) j (front ++ drop j bs))
    ∙ ap (drop (n - j)) (drop_at front (drop j bs) j e)
    ∙ drop-drop (n - j) j bs)
