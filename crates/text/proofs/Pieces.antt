-- Texts put one after the other are one text, and a text that is copied into a part of a buffer is put there.
-- Stores from an index on are followed by stores from where they end. Assumes nothing.
use mathlib.Core.Path.{◌≡◌, refl, sym, ◌∙◌}
use mathlib.Core.List.{List, [], ◌∷◌, ◌++◌, append_assoc}
use Prim.Native.Nat.{ℕ, suc, ◌+◌, ◌-◌, ◌*◌, ◌≤◌}
use native.Mathlib.Nat.{add-zero, add-suc, suc-add, add_assoc}
use native.Mathlib.Omega.{arith}
use lib.ListN.{length, take, drop, set, length-append}
use lib.Seq.{sets, sets-eq, drop-drop}
use borrow.Rule.Slice.PartMut.{put_mid}
use Rattle.std.specs.List.{flat_map}
use Rattle.std.proofs.lemmas.List.{flat_map_more}
use Rattle.text.specs.declared.page.Page.{Page}
use Rattle.text.specs.Steps.{Puts}

sets_append : (xs ys l : List ℕ) (at : ℕ) → sets (sets l at xs) (at + length xs) ys ≡ sets l at (xs ++ ys)
sets_append [] ys l at = rw (add-zero at)
sets_append (x ∷ xs) ys l at =
    let e : at + suc (length xs) ≡ suc at + length xs = add-suc at (length xs) ∙ sym (suc-add at (length xs)) in
    rw e (sets_append xs ys (set l at x) (suc at))

-- a text and the one after it
pub then : {before between after : Page} {m n : ℕ} {xs ys : List ℕ}
    → Puts before xs m between → Puts between ys n after → Puts before (xs ++ ys) (m + n) after
then {before} {between} {after} {m} {n} {xs} {ys} p q =
    record {
      bytes = q.bytes ∙ rw (p.bytes, p.ends) (sets_append xs ys before.out.now before.end);
      ends = q.ends ∙ rw (p.ends, length-append) (add_assoc before.end (length xs) (length ys));
      few = omega (arith, p.few, q.few);
      length_kept = q.length_kept ∙ p.length_kept;
      same_reference = p.same_reference ∙ q.same_reference;
    }

-- the same text, in at most so many bytes
pub fewer : {before after : Page} {m : ℕ} {text : List ℕ} (n : ℕ) → Puts before text m after → length text ≤ n → Puts before text n after
fewer n p h = record { bytes = p.bytes; ends = p.ends; few = omega (arith, p.ends); length_kept = p.length_kept; same_reference = p.same_reference }

-- a text copied over the part of a buffer that is as long as it
pub through : (l text part : List ℕ) (at : ℕ) → at + length text ≤ length l → part ≡ text
    → put_mid at (at + length text - at) l part ≡ sets l at text
through l text part at h e =
    let n : at + length text - at ≡ length text = omega arith in
    rw (e, n, drop-drop (length text) at l, sets-eq text l at h) (sym (append_assoc (take at l) text (drop (at + length text) l)))

-- a text at the start: it stands there, and after it the buffer is as it was
pub at_start : {before after : Page} {text : List ℕ} {m : ℕ} → Puts before text m after → before.end ≡ 0 → after.end ≤ length before.out.now
    → (after.end ≡ length text) × (after.out.now ≡ text ++ drop after.end before.out.now)
at_start {before} {after} {text} p start h =
    let ends : after.end ≡ 0 + length text = omega (arith, p.ends) in
    let bytes : after.out.now ≡ sets before.out.now 0 text = p.bytes ∙ rw start refl in
    (omega (arith, ends), bytes ∙ sets-eq text before.out.now 0 (omega (arith, ends)) ∙ rw (← ends))

-- ---- the texts of several things

module _ {A : Type 0} (text : A → List ℕ) where
  -- none
  pub put_none : (page : Page) → Puts page (flat_map text []) 0 page
  put_none page = record { bytes = refl; ends = sym (add-zero page.end); few = omega arith; length_kept = refl; same_reference = refl }

  -- and one more, each in at most so many bytes
  pub put_more : {before between after : Page} (n most : ℕ) (xs : List A) (x : A)
      → Puts before (flat_map text xs) (n * most) between → Puts between (text x) most after
      → Puts before (flat_map text (xs ++ (x ∷ []))) (suc n * most) after
  put_more n most xs x p q =
      let more : suc n * most ≡ n * most + most = omega arith in
      rw (more, ← flat_map_more text [] xs x) (then p q)
