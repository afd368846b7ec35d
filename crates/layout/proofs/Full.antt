-- A table without a gap, from 0 to `n`: writing it replaces the first `n` bytes by the bytes of its values, whatever stood there, and changes nothing else.
-- By induction over the table; each field's bytes follow those before it. Assumes nothing.
use mathlib.Core.Path.{◌≡◌, refl, sym, ap, ap₂, ◌∙◌}
use mathlib.Core.List.{List, [], ◌∷◌, ◌++◌, append_assoc, append-nil}
use mathlib.Core.Bool.{true}
use Prim.Native.Nat.{ℕ, suc, ◌+◌, ◌-◌, ◌≤◌, ◌<◌}
use native.Mathlib.Omega.{arith}
use lib.Dec.{eqb}
use lib.ListN.{length, get_or, take, drop, replicate, length-append, length-replicate, take-append-drop, drop_of_length-le}
use lib.Seq.{length-take-le, take_at, drop_at, drop-drop}
use borrow.Author.Tests.{eqb-true}
use Rattle.le.specs.Le.{put}
use Rattle.le.proofs.Laws.{length-put}
use Rattle.layout.specs.Fields.{Field, Fits, full_from, full, Below, read_all, write_all, digits, bytes_of}
use Rattle.layout.proofs.Digits.{length_digits, put-digits}
use Rattle.basics.proofs.Bools.{both}
use Rattle.layout.proofs.Fields.{fits_end, length_write, read_write, length_read, write_back}

full_from_true : (lo : ℕ) (f : Field) (fs : List Field) (n : ℕ) → full_from lo (f ∷ fs) n ≡ true → (lo ≡ f.at) × (full_from (f.at + f.width) fs n ≡ true)
full_from_true lo f fs n e =
    let q = both (eqb lo f.at) (full_from (f.at + f.width) fs n) e in
    (eqb-true lo f.at q.0, q.1)

full_from_fits : (lo : ℕ) (fs : List Field) (n : ℕ) → full_from lo fs n ≡ true → Fits lo fs n
full_from_fits lo [] n e = let q = eqb-true lo n e in omega arith
full_from_fits lo (f ∷ fs) n e =
    let q = full_from_true lo f fs n e in
    (omega arith, full_from_fits (f.at + f.width) fs n q.1)

-- a table without a gap fits
pub full_fits : (fs : List Field) (n : ℕ) → full fs n ≡ true → Fits 0 fs n
full_fits fs n e = full_from_fits 0 fs n e

below_length : (fs : List Field) (vs : List ℕ) → Below fs vs → length vs ≡ length fs
below_length [] [] b = refl
below_length [] (v ∷ vs) b = absurd b
below_length (f ∷ fs) [] b = absurd b
below_length (f ∷ fs) (v ∷ vs) b = ap suc (below_length fs vs b.1)

-- ---- writing

-- what a number that was written at `at` leaves, up to its end and from a later place on
take_put : (w : ℕ) (bs : List ℕ) (at x : ℕ) → at + w ≤ length bs → take (at + w) (put w bs at x) ≡ take at bs ++ digits w x
take_put w bs at x h =
    ap (take (at + w)) (put-digits w bs at x h)
    ∙ take_at (take at bs ++ digits w x) (drop (at + w) bs) (at + w)
    (simp length-append (omega (arith, length-take-le at bs (omega arith), length_digits w x)))

drop-put : (w : ℕ) (bs : List ℕ) (at x n : ℕ) → at + w ≤ n → at + w ≤ length bs → drop n (put w bs at x) ≡ drop n bs
drop-put w bs at x n l h =
    let past : at + w + (n - (at + w)) ≡ n = omega arith in
    rw (← past)
    (sym (drop-drop (n - (at + w)) (at + w) (put w bs at x))
    ∙ ap (drop (n - (at + w)))
    (ap (drop (at + w)) (put-digits w bs at x h)
    ∙ drop_at (take at bs ++ digits w x) (drop (at + w) bs) (at + w)
    (simp length-append (omega (arith, length-take-le at bs (omega arith), length_digits w x))))
    ∙ drop-drop (n - (at + w)) (at + w) bs)

write_full_from : (n lo : ℕ) (fs : List Field) (vs bs : List ℕ) → full_from lo fs n ≡ true → length vs ≡ length fs → n ≤ length bs → write_all fs vs bs ≡ take lo bs ++ bytes_of fs vs ++ drop n bs
unfolding write_all bytes_of
write_full_from n lo [] [] bs e l h =
    sym (ap (λ (k : ℕ). take lo bs ++ [] ++ drop k bs) (sym (eqb-true lo n e)) ∙ ap (λ (r : List ℕ). r ++ drop lo bs) (append-nil (take lo bs)) ∙ take-append-drop lo bs)
write_full_from n lo [] (v ∷ vs) bs e l h = absurd (omega arith)
write_full_from n lo (f ∷ fs) [] bs e l h = absurd (omega arith)
write_full_from n lo (f ∷ fs) (v ∷ vs) bs e l h =
    let q = full_from_true lo f fs n e in
    let w = f.width in
    let at = f.at in
    let next = put w bs at v in
    let end : at + w ≤ n = fits_end (at + w) fs n (full_from_fits (at + w) fs n q.1) in
    write_full_from n (at + w) fs vs next q.1 (omega arith) (omega (arith, length-put w bs at v))
    ∙ ap₂ (λ (front rest : List ℕ). front ++ bytes_of fs vs ++ rest) (take_put w bs at v (omega arith)) (drop-put w bs at v n end (omega arith))
    ∙ ap (λ (front : List ℕ). front ++ drop n bs) (append_assoc (take at bs) (digits w v) (bytes_of fs vs))
    ∙ ap (λ (k : ℕ). take k bs ++ (digits w v ++ bytes_of fs vs) ++ drop n bs) (sym q.0)

module _ (n : ℕ) (fs : List Field) (e : full fs n ≡ true) where
  -- exactly the first `n` bytes change, to those of the values
  pub write_full : (vs bs : List ℕ) → length vs ≡ length fs → n ≤ length bs → write_all fs vs bs ≡ bytes_of fs vs ++ drop n bs
  write_full vs bs l h = write_full_from n 0 fs vs bs e l h

  pub length-bytes : (vs : List ℕ) → length vs ≡ length fs → length (bytes_of fs vs) ≡ n
  length-bytes vs l =
      let zeros : List ℕ = replicate n 0 in
      let z : length zeros ≡ n = length-replicate n 0 in
      let w = ap length (write_full vs zeros l (omega arith)) in
      let none : drop n zeros ≡ [] = drop_of_length-le zeros {i = n} (omega arith) in
      ap length (sym (append-nil (bytes_of fs vs)) ∙ ap (λ (r : List ℕ). bytes_of fs vs ++ r) (sym none)) ∙ sym w ∙ length_write fs vs zeros ∙ z

  -- the values are read from their bytes
  pub read_full : (vs rest : List ℕ) → Below fs vs → read_all fs (bytes_of fs vs ++ rest) ≡ vs
  read_full vs rest b =
      let l = below_length fs vs b in
      let zeros : List ℕ = replicate n 0 in
      let z : length zeros ≡ n = length-replicate n 0 in
      ap (read_all fs)
      (ap (λ (r : List ℕ). bytes_of fs vs ++ r) (sym (drop_at zeros rest n z))
      ∙ sym (write_full vs (zeros ++ rest) l (simp length-append (omega arith))))
      ∙ read_write n 0 fs vs (zeros ++ rest) (full_fits fs n e) (simp length-append (omega arith)) b

  -- the bytes of what was read are those that it was read from
  pub bytes_read : (cs : List ℕ) → ((k : ℕ) → get_or cs k 0 < 256) → n ≤ length cs → bytes_of fs (read_all fs cs) ≡ take n cs
  bytes_read cs bytes h =
      let l = length_read fs cs in
      sym (ap (take n) (sym (write_back cs bytes fs) ∙ write_full (read_all fs cs) cs l h)
      ∙ take_at (bytes_of fs (read_all fs cs)) (drop n cs) n (length-bytes (read_all fs cs) l))
