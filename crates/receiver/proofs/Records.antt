-- The bytes of a record that is all in, by what the code reads of its header.
-- By the tests that make up a header. Assumes nothing.
use mathlib.Core.Path.{◌≡◌, refl, sym, ap, ◌∙◌}
use mathlib.Core.List.{List, [], ◌∷◌}
use mathlib.Core.Bool.{Bool, true, false, cond}
use mathlib.Core.Logic.{⊎_elim}
use Prim.Native.Nat.{ℕ, zero, suc, ◌≤◌, ◌<◌}
use native.Mathlib.Omega.{arith}
use lib.Dec.{eqb, leb}
use lib.ListN.{length}
use borrow.Author.Tests.{le-leb, leb-true, leb-false, ne_eqb}
use Rattle.std.proofs.Common.{Ok, Err}
use Rattle.basics.proofs.Orders.{le_or_lt}
use Rattle.header_judge.specs.Head.{head_of, declared_by, Head}
use Rattle.header_judge.specs.declared.Summary.{Summary}
use Rattle.region_rows.specs.declared.Span.{Span}
use Rattle.region_rows.specs.Rows.{top}
use Rattle.region_try.specs.Tries.{Try, none, hit, span_of, try_of}
use Rattle.receiver.specs.Arrived.{arrived}
use Rattle.receiver.specs.Steps.{bytes_in}
use Rattle.receiver.proofs.Arrived.{top_try, top_whence, Complete, arrived_end, arrived_stop, arrived_lacks, arrived_hit}

-- ---- a header of which bytes are all in

pub record Full (left : ℕ) (head : Head) : Type 0 where
  pub summary : Summary
  pub is : head ≡ Ok summary
  pub some : 0 < summary.declared
  pub fits : summary.declared ≤ left
  pub bytes : bytes_in left head ≡ summary.declared

-- none are where none is declared
no_bytes : (left : ℕ) (head : Head) → declared_by head ≡ 0 → 0 < bytes_in left head → ⊥
unfolding bytes_in
no_bytes left head e h = by (leb 0 left) (rw e at h)
  where
    by : (b : Bool) → 0 < cond b 0 0 → ⊥
    by true h = omega arith
    by false h = omega arith

pub full : (left : ℕ) (head : Head) → 0 < bytes_in left head → Full left head
unfolding bytes_in declared_by
full left (Err why) h = absurd (no_bytes left (Err why) refl h)
full left (Ok s) h = by (leb s.declared left) refl h
  where
    by : (b : Bool) → leb s.declared left ≡ b → 0 < cond b s.declared 0 → Full left (Ok s)
    by true e h = record { summary = s; is = refl; some = h; fits = leb-true s.declared left e; bytes = rw e }
    by false e h = absurd (omega arith)

-- so many bytes have come
pub bytes_within : (left : ℕ) (head : Head) → bytes_in left head ≤ left
unfolding bytes_in
bytes_within left head = by (leb (declared_by head) left) refl
  where
    by : (b : Bool) → leb (declared_by head) left ≡ b → cond b (declared_by head) 0 ≤ left
    by true e = leb-true (declared_by head) left e
    by false e = omega arith

-- a record that is not all in lacks bytes
pub lacks_bytes : (left : ℕ) (s : Summary) → 0 < s.declared → bytes_in left (Ok s) ≡ 0 → left < s.declared
unfolding bytes_in declared_by
lacks_bytes left s some no_bytes = by (leb s.declared left) refl no_bytes
  where
    by : (b : Bool) → leb s.declared left ≡ b → cond b s.declared 0 ≡ 0 → left < s.declared
    by true e z = absurd (omega arith)
    by false e z = leb-false s.declared left e

-- ---- the first record of some bytes

module _ (rules bytes : List ℕ) (offset : ℕ) where
  abbrev here : Head
  here = head_of rules bytes

  -- one that is all in has this row
  abbrev pub row_of : Summary → Span
  row_of s = span_of 0 top offset (length bytes) s

  pub complete_here : (s : Summary) → here ≡ Ok s → 0 < s.declared → s.declared ≤ length bytes → Complete rules bytes offset (row_of s)
  unfolding try_of
  complete_here s is some fits =
      let declares : eqb s.declared 0 ≡ false = ne_eqb s.declared 0 (λ e. omega arith) in
      record { is = ap (try_of 0 top offset (length bytes)) is ∙ rw declares; some = some; enough = fits }

  -- the bytes of a record are those that its header declares
  full_bytes : (r : Span) → top_try rules bytes offset ≡ hit r → r.declared ≤ length bytes → bytes_in (length bytes) here ≡ r.declared
  unfolding bytes_in declared_by
  full_bytes r e h = ap (bytes_in (length bytes)) (top_whence rules bytes offset r e).is ∙ rw (le-leb r.declared (length bytes) h)

  pub waits_here : bytes_in (length bytes) here ≡ 0 → arrived rules bytes offset ≡ []
  waits_here no_bytes = ⊎_elim (arrived_end rules bytes offset) (λ some. by some (top_try rules bytes offset) refl) (le_or_lt (length bytes) 0)
    where
      by : 0 < length bytes → (v : Try) → top_try rules bytes offset ≡ v → arrived rules bytes offset ≡ []
      by some (none l o head) e = arrived_stop rules bytes offset some e
      by some (hit r) e =
          ⊎_elim
          (λ (enough : r.declared ≤ length bytes).
          let bytes_are = full_bytes r e enough in
          let declares = (top_whence rules bytes offset r e).some in
          absurd (omega arith))
          (λ (short : length bytes < r.declared). arrived_lacks rules bytes offset r some e short)
          (le_or_lt r.declared (length bytes))

  -- nothing is all in exactly where the first header's record is not
  pub waits_exactly : eqb (length (arrived rules bytes offset)) 0 ≡ eqb (bytes_in (length bytes) here) 0
  waits_exactly = by (bytes_in (length bytes) here) refl
    where
      some : {r : Span} {more : List Span} → arrived rules bytes offset ≡ r ∷ more → eqb (length (arrived rules bytes offset)) 0 ≡ false
      some first = ne_eqb (length (arrived rules bytes offset)) 0 (λ z. let counted = ap length first in absurd (omega arith))

      by : (n : ℕ) → bytes_in (length bytes) here ≡ n → eqb (length (arrived rules bytes offset)) 0 ≡ eqb n 0
      by zero e = ap (λ (rs : List Span). eqb (length rs) 0) (waits_here e)
      by (suc n) e =
          let f = full (length bytes) here (rw e (omega arith)) in
          let first = arrived_hit rules bytes offset (row_of f.summary) (complete_here f.summary f.is f.some f.fits) in
          some first ∙ sym (ne_eqb (suc n) 0 (λ z. omega arith))
