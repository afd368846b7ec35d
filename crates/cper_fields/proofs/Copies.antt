-- What a copy leaves: of a part of a slice in an array as long as the part, and in the part of a slice that starts at an offset.
-- By laws of `take` and `drop`. Assumes nothing.
use mathlib.Core.Path.{◌≡◌, sym, ap, ◌∙◌}
use mathlib.Core.List.{List, ◌++◌, append_assoc}
use Prim.Native.Nat.{ℕ, ◌+◌, ◌-◌}
use native.Mathlib.Omega.{arith}
use lib.ListN.{length, take, drop}
use borrow.Rule.Slice.PartMut.{put_mid}
use Rattle.basics.proofs.Parts.{put_through}
use Rattle.cper_fields.specs.Fields.{part, over}

-- a part copied over a whole array
pub copied_part : (bs out : List ℕ) (at n : ℕ) → out ≡ take (at + n - at) (drop at bs) → out ≡ part bs at n
copied_part bs out at n e =
    let count : at + n - at ≡ n = omega arith in
    e ∙ ap (λ (k : ℕ). take k (drop at bs)) count

-- what was written to the start of the part that starts at an offset
pub written_through : (out field last : List ℕ) (at n : ℕ) → last ≡ field ++ drop n (take (length out - at) (drop at out))
    → put_mid at (length out - at) out last ≡ over out at n field
written_through out field last at n e = put_through out field last at n e ∙ sym (append_assoc (take at out) field (drop (at + n) out))
