-- A part of a list, as code lends it: what stands from an offset on, and what follows some bytes of a part.
-- By the lengths, and by induction over the bytes. Assumes nothing.
use mathlib.Core.Path.{◌≡◌, ap, sym, ◌∙◌}
use mathlib.Core.List.{List, [], ◌∷◌, ◌++◌, append-nil}
use Prim.Native.Nat.{ℕ, zero, suc, ◌+◌, ◌-◌, ◌≤◌}
use native.Mathlib.Nat.{sub-zero}
use native.Mathlib.Omega.{arith}
use lib.ListN.{length, take, drop, drop_of_length-le, length-drop}
use lib.Seq.{drop-drop, take_all, take-nil}
use borrow.Rule.Slice.PartMut.{put_mid}

pub tail_part : (bs : List ℕ) (at : ℕ) → take (length bs - at) (drop at bs) ≡ drop at bs
tail_part bs at = take_all (length bs - at) (drop at bs) (omega (arith, length-drop at bs))

-- what was written to the start of that part stands in the list from the offset on: nothing stands after the part
pub put_through : (out field last : List ℕ) (at n : ℕ) → last ≡ field ++ drop n (take (length out - at) (drop at out))
    → put_mid at (length out - at) out last ≡ take at out ++ (field ++ drop (at + n) out)
put_through out field last at n e =
    let end : length out ≤ at + (length out - at) = omega arith in
    ap (λ (l : List ℕ). take at out ++ (l ++ drop (length out - at) (drop at out)))
    (e ∙ ap (λ (l : List ℕ). field ++ drop n l) (tail_part out at) ∙ ap (λ (l : List ℕ). field ++ l) (drop-drop n at out))
    ∙ ap (λ (l : List ℕ). take at out ++ ((field ++ drop (at + n) out) ++ l)) (drop-drop (length out - at) at out ∙ drop_of_length-le out end)
    ∙ ap (λ (l : List ℕ). take at out ++ l) (append-nil (field ++ drop (at + n) out))

-- what follows some bytes of a part is a part of what follows them
pub drop-take : (k n : ℕ) (bs : List ℕ) → drop k (take n bs) ≡ take (n - k) (drop k bs)
drop-take zero n bs = rw (sub-zero n)
drop-take (suc k) zero bs = let none : 0 - suc k ≡ 0 = omega arith in rw none
drop-take (suc k) (suc n) [] = sym (take-nil (suc n - suc k))
drop-take (suc k) (suc n) (b ∷ bs) = let less : suc n - suc k ≡ n - k = omega arith in rw less (drop-take k n bs)
