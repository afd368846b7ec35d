-- A number written is its bytes laid over what stood there; a number read has the bytes that it was read from.
-- By induction over the width. Assumes nothing.
use mathlib.Core.Path.{◌≡◌, refl, sym, ap, ap₂, ◌∙◌}
use mathlib.Core.List.{List, [], ◌∷◌, ◌++◌, append_assoc}
use Prim.Native.Nat.{ℕ, zero, suc, ◌+◌, ◌/◌, ◌%◌, ◌^◌, ◌≤◌, ◌<◌}
use native.Mathlib.Nat.{add-suc, zero-div}
use native.Mathlib.Omega.{arith}
use lib.ListN.{length, get_or, set, take, drop, replicate, length-append, replicate-append-replicate}
use lib.Seq.{append_snoc, set_at, drop-cons, length-take-le, take_at, drop_at, paste-zero}
use Rattle.le.specs.Le.{le, put}
use Rattle.le.proofs.Laws.{put-le}
use Rattle.layout.specs.Fields.{digits}

pub length_digits : (w x : ℕ) → length (digits w x) ≡ w
unfolding digits
length_digits zero x = refl
length_digits (suc w) x = simp (length-append, length_digits w x) (omega arith)

pub digits_zero : (w : ℕ) → digits w 0 ≡ replicate w 0
unfolding digits
digits_zero zero = refl
digits_zero (suc w) =
    let e : 0 / 256 ^ w % 256 ≡ 0 = rw (zero-div (256 ^ w)) in
    let s : w + 1 ≡ suc w = omega arith in
    ap₂ (λ (l : List ℕ) (b : ℕ). l ++ (b ∷ [])) (digits_zero w) e
    ∙ replicate-append-replicate w 1 0 ∙ ap (λ (n : ℕ). replicate n 0) s

-- a number written: what stands before it, its bytes, what stands after it
pub put-digits : (w : ℕ) (bs : List ℕ) (at x : ℕ) → at + w ≤ length bs → put w bs at x ≡ take at bs ++ digits w x ++ drop (at + w) bs
unfolding put digits
put-digits zero bs at x h = paste-zero bs at []
put-digits (suc w) bs at x h =
    let b = x / 256 ^ w % 256 in
    let front = take at bs ++ digits w x in
    let rest = drop (suc (at + w)) bs in
    ap (λ (l : List ℕ). set l (at + w) b)
    (put-digits w bs at x (omega arith) ∙ ap (λ (l : List ℕ). front ++ l) (drop-cons bs (at + w) 0 (omega arith)))
    ∙ set_at front (get_or bs (at + w) 0) rest b (at + w)
    (simp length-append (omega (arith, length-take-le at bs (omega arith), length_digits w x)))
    ∙ sym (append_snoc front b rest)
    ∙ rw (append_assoc (take at bs) (digits w x) (b ∷ []), add-suc at w)

module _ (bs : List ℕ) (bytes : (k : ℕ) → get_or bs k 0 < 256) where
  -- a number read has the bytes that it was read from
  pub digits_le : (w at : ℕ) → at + w ≤ length bs → digits w (le w bs at) ≡ take w (drop at bs)
  digits_le w at h =
      let e : take at bs ++ digits w (le w bs at) ++ drop (at + w) bs ≡ bs = sym (put-digits w bs at (le w bs at) h) ∙ put-le bs bytes at w in
      let front : length (take at bs) ≡ at = length-take-le at bs (omega arith) in
      sym (ap (λ (l : List ℕ). take w (drop at l)) (sym e)
      ∙ ap (take w) (ap (drop at) (append_assoc (take at bs) (digits w (le w bs at)) (drop (at + w) bs)) ∙ drop_at (take at bs) (digits w (le w bs at) ++ drop (at + w) bs) at front)
      ∙ take_at (digits w (le w bs at)) (drop (at + w) bs) w (length_digits w (le w bs at)))
