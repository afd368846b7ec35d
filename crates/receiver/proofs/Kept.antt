-- Bytes that are copied: those that are kept of some, and kept bytes with a piece after them.
-- By how long the parts are. Assumes nothing.
use mathlib.Core.Path.{◌≡◌, sym, ap, ◌∙◌}
use mathlib.Core.List.{List, ◌++◌}
use mathlib.Core.Logic.{⊎_elim}
use Prim.Native.Nat.{ℕ, ◌+◌, ◌-◌, min, ◌≤◌, ◌<◌}
use native.Mathlib.Omega.{arith}
use lib.ListN.{length, take, drop, length-take, length-drop}
use lib.Seq.{take_all, take-length, take-append-add, take-append_seam}
use borrow.Rule.Slice.PartMut.{put_mid}
use Rattle.basics.proofs.Orders.{le_or_lt}
use Rattle.receiver.specs.Calls.{most_kept, kept_of}

-- as many as there are, at most n
pub take_least : (n : ℕ) (bs : List ℕ) → take (min (length bs) n) bs ≡ take n bs
take_least n bs =
    ⊎_elim
    (λ (h : length bs ≤ n). let e : min (length bs) n ≡ length bs = omega arith in rw e (take-length bs ∙ sym (take_all n bs h)))
    (λ (h : n < length bs). let e : min (length bs) n ≡ n = omega arith in rw e)
    (le_or_lt (length bs) n)

-- the first bytes of those that are kept, by how many are held
pub kept_front : (held : ℕ) (kept : List ℕ) → length kept ≡ most_kept → take (min held most_kept) kept ≡ take held kept
kept_front held kept long =
    ⊎_elim
    (λ (h : held ≤ most_kept). let e : min held most_kept ≡ held = omega arith in rw e)
    (λ (h : most_kept < held).
    let e : min held most_kept ≡ most_kept = omega arith in
    rw e (take_all most_kept kept (omega arith) ∙ sym (take_all held kept (omega arith))))
    (le_or_lt held most_kept)

-- what is copied to the start of the kept bytes from a place on: as many bytes as there are, at most 536
pub copied : (s kept last : List ℕ) (at n : ℕ) → at ≤ length s → n ≡ min (length s - at) most_kept
    → last ≡ take (at + n - at) (drop at s)
    → last ++ drop n kept ≡ kept_of (drop at s) kept
copied s kept last at n h is e =
    let most : at + n - at ≡ min (length (drop at s)) most_kept = rw (length-drop at s) (omega arith) in
    let part : last ≡ take most_kept (drop at s) = e ∙ ap (λ (k : ℕ). take k (drop at s)) most ∙ take_least most_kept (drop at s) in
    let counted : n ≡ length (take most_kept (drop at s)) = simp (length-take, length-drop) (omega arith) in
    rw (part, ← counted)

-- kept bytes, and a piece after them, at the start of a longer buffer
pub joined_copy : (kept piece zeros one last : List ℕ)
    → one ≡ kept
    → last ≡ piece
    → take (length kept + length piece) (put_mid (length kept) (length kept + length piece - length kept) (one ++ drop (length kept) zeros) last) ≡ kept ++ piece
joined_copy kept piece zeros one last e f =
    let past_all = drop (length kept + length piece - length kept) (drop (length kept) (kept ++ drop (length kept) zeros)) in
    rw (e, f)
    (ap (λ (l : List ℕ). take (length kept + length piece) (l ++ (piece ++ past_all))) (take-append_seam kept (drop (length kept) zeros))
    ∙ take-append-add kept (piece ++ past_all) (length piece)
    ∙ ap (λ (l : List ℕ). kept ++ l) (take-append_seam piece past_all))
