-- The length of a part and of a field that may be absent.
-- By the laws of `take` and `replicate`. Assumes nothing.
use mathlib.Core.Path.{◌≡◌}
use mathlib.Core.List.{List}
use mathlib.Core.Bool.{Bool, true, false}
use Prim.Native.Nat.{ℕ, ◌+◌, ◌≤◌}
use native.Mathlib.Omega.{arith}
use lib.ListN.{length, drop, length-drop, length-replicate}
use lib.Seq.{length-take-le}
use Rattle.std.specs.Bool.{then_some}
use Rattle.cper_fields.specs.Fields.{part, present}

pub length_part : (bs : List ℕ) (at n : ℕ) → at + n ≤ length bs → length (part bs at n) ≡ n
length_part bs at n h = length-take-le n (drop at bs) (omega (arith, length-drop at bs))

pub length-present : (held : Bool) (n : ℕ) (bs : List ℕ) → length bs ≡ n → length (present n (then_some held bs)) ≡ n
length-present true n bs e = e
length-present false n bs e = length-replicate n 0
