-- The walk over some bytes, one record at a time: where none is all in it stays, and else it goes on after the record.
-- By the first record of the bytes. Assumes nothing.
use mathlib.Core.Path.{◌≡◌, sym, ap, ◌∙◌}
use mathlib.Core.List.{List, [], ◌∷◌}
use mathlib.Core.Bool.{◌&&◌}
use Prim.Native.Nat.{ℕ, ◌+◌, ◌-◌, ◌≤◌, ◌<◌}
use native.Mathlib.Nat.{add-zero}
use native.Mathlib.Omega.{arith}
use lib.ListN.{length, drop}
use lib.Seq.{drop-drop}
use borrow.Author.Tests.{ne_eqb}
use Rattle.header_judge.specs.Head.{head_of, Head}
use Rattle.region_rows.specs.declared.Span.{Span}
use Rattle.region_rows.specs.Rows.{top, with_span}
use Rattle.region_rows.proofs.Rows.{stored_none, stored_more}
use Rattle.region_try.specs.Tries.{hit, span_of, try_of}
use Rattle.region_try.specs.Whole.{keeps_whole}
use Rattle.receiver.specs.Arrived.{arrived, extent, whole_with}
use Rattle.receiver.specs.Calls.{kept_of}
use Rattle.receiver.specs.Steps.{bytes_in, put_of, pass_of, moved_of}
use Rattle.receiver.specs.declared.piece.Moved.{Moved}
use Rattle.receiver.proofs.Arrived.{arrived_end, arrived_hit, extent_within}
use Rattle.receiver.proofs.Records.{full, waits_here}

-- past the record of a row
abbrev step : Moved → Span → Moved
step m r = record { rows = m.rows + 1; offset = m.offset + r.declared; whole = m.whole && keeps_whole (hit r) }

-- ---- a record whose row is put

module _ (left : ℕ) (head : Head) (m : Moved) (t : List ℕ) (declared : ℕ) (some : 0 < declared) (are : declared ≡ bytes_in left head)
    (t₁ : List ℕ) (m₁ : Moved) (put : ◌≡◌ {A = List ℕ × Moved} (t₁, m₁) (put_of (try_of 0 top m.offset left head) m t)) where
  -- its row
  record Row : Type 0 where
    pub row : Span
    pub found : try_of 0 top m.offset left head ≡ hit row
    pub declares : row.declared ≡ declared
    pub fits : declared ≤ left
    pub is : ◌≡◌ {A = List ℕ × Moved} (t₁, m₁) (with_span t m.rows row, step m row)

  row_put : Row
  unfolding put_of try_of
  row_put =
      let f = full left head (rw (← are) some) in
      let s = f.summary in
      let nonzero = ne_eqb s.declared 0 (λ e. let h = f.some in omega arith) in
      let found : try_of 0 top m.offset left head ≡ hit (span_of 0 top m.offset left s) = ap (try_of 0 top m.offset left) f.is ∙ rw nonzero in
      record {
        row = span_of 0 top m.offset left s;
        found = found;
        declares = sym (are ∙ f.bytes);
        fits = rw (are ∙ f.bytes) f.fits;
        is = put ∙ rw found;
      }

  pub put_moves : (m₁.rows ≡ m.rows + 1) × (m₁.offset ≡ m.offset + declared) × (declared ≤ left)
  put_moves =
      let q = row_put in
      (ap (λ (x : List ℕ × Moved). x.1.rows) q.is, ap (λ (x : List ℕ × Moved). x.1.offset) q.is ∙ rw q.declares, q.fits)

-- ---- the walk

module _ (rules bytes : List ℕ) (m : Moved) (kept t : List ℕ) where
  -- a pass, and the rest kept
  pub moved_pass : (t₁ : List ℕ) (m₁ : Moved) → ◌≡◌ {A = List ℕ × Moved} (t₁, m₁) (pass_of rules bytes m t)
      → ◌≡◌ {A = List ℕ × List ℕ × Moved} (kept_of (drop (m₁.offset - m.offset) bytes) kept, t₁, m₁) (moved_of rules bytes m kept t)
  unfolding pass_of moved_of
  moved_pass t₁ m₁ e =
      let came : m.offset + extent (arrived rules bytes m.offset) - m.offset ≡ extent (arrived rules bytes m.offset) = omega arith in
      ap (λ (x : List ℕ × Moved). (kept_of (drop (x.1.offset - m.offset) bytes) kept, x.0, x.1)) e ∙ rw came

  moved_none : arrived rules bytes m.offset ≡ [] → moved_of rules bytes m kept t ≡ (kept_of bytes kept, t, m)
  unfolding moved_of extent whole_with
  moved_none e = rw (e, stored_none t m.rows, add-zero m.rows, add-zero m.offset)

  -- no record is all in
  pub moved_waits : bytes_in (length bytes) (head_of rules bytes) ≡ 0 → moved_of rules bytes m kept t ≡ (kept_of bytes kept, t, m)
  moved_waits e = moved_none (waits_here rules bytes m.offset e)

  -- no byte is left
  pub moved_end : length bytes ≡ 0 → moved_of rules bytes m kept t ≡ (kept_of bytes kept, t, m)
  moved_end e = moved_none (arrived_end rules bytes m.offset (omega arith))

  -- a record goes before
  module _ (declared : ℕ) (some : 0 < declared) (are : declared ≡ bytes_in (length bytes) (head_of rules bytes))
      (t₁ : List ℕ) (m₁ : Moved) (put : ◌≡◌ {A = List ℕ × Moved} (t₁, m₁) (put_of (try_of 0 top m.offset (length bytes) (head_of rules bytes)) m t)) where
    pub moved_put : moved_of rules bytes m kept t ≡ moved_of rules (drop declared bytes) m₁ kept t₁
    unfolding moved_of extent whole_with
    moved_put =
        let f = full (length bytes) (head_of rules bytes) (rw (← are) some) in
        let q = row_put (length bytes) (head_of rules bytes) m t declared some are t₁ m₁ put in
        let r = q.row in
        let more = arrived rules (drop r.declared bytes) (m.offset + r.declared) in
        let first : arrived rules bytes m.offset ≡ r ∷ more = arrived_hit rules bytes m.offset r (record { is = q.found; some = rw q.declares some; enough = rw q.declares q.fits }) in
        let counted : m.rows + length (r ∷ more) ≡ m.rows + 1 + length more = omega arith in
        let placed : m.offset + (r.declared + extent more) ≡ m.offset + r.declared + extent more = omega arith in
        let stepped : moved_of rules bytes m kept t ≡ moved_of rules (drop r.declared bytes) (step m r) kept (with_span t m.rows r) =
        rw (first, stored_more t m.rows r more, counted, placed, sym (drop-drop (extent more) r.declared bytes)) in
        stepped
        ∙ ap (λ (x : List ℕ × Moved). moved_of rules (drop r.declared bytes) x.1 kept x.0) (sym q.is)
        ∙ ap (λ (n : ℕ). moved_of rules (drop n bytes) m₁ kept t₁) q.declares

-- ---- a pass is what the walk leaves, but for the kept bytes

module _ (rules bytes : List ℕ) (m : Moved) (t : List ℕ) where
  pub pass_waits : bytes_in (length bytes) (head_of rules bytes) ≡ 0 → pass_of rules bytes m t ≡ (t, m)
  unfolding pass_of moved_of
  pass_waits e = ap (λ (x : List ℕ × List ℕ × Moved). (x.1, x.2)) (moved_waits rules bytes m [] t e)

  pub pass_end : length bytes ≡ 0 → pass_of rules bytes m t ≡ (t, m)
  unfolding pass_of moved_of
  pass_end e = ap (λ (x : List ℕ × List ℕ × Moved). (x.1, x.2)) (moved_end rules bytes m [] t e)

  pub pass_put : (declared : ℕ) → 0 < declared → declared ≡ bytes_in (length bytes) (head_of rules bytes)
      → (t₁ : List ℕ) (m₁ : Moved) → ◌≡◌ {A = List ℕ × Moved} (t₁, m₁) (put_of (try_of 0 top m.offset (length bytes) (head_of rules bytes)) m t)
      → pass_of rules bytes m t ≡ pass_of rules (drop declared bytes) m₁ t₁
  unfolding pass_of moved_of
  pass_put declared some are t₁ m₁ put = ap (λ (x : List ℕ × List ℕ × Moved). (x.1, x.2)) (moved_put rules bytes m [] t declared some are t₁ m₁ put)

  -- and ends within the bytes
  pub pass_within : (t₁ : List ℕ) (m₁ : Moved) → ◌≡◌ {A = List ℕ × Moved} (t₁, m₁) (pass_of rules bytes m t) → m₁.offset ≤ m.offset + length bytes
  unfolding pass_of
  pass_within t₁ m₁ e = let ends = ap (λ (x : List ℕ × Moved). x.1.offset) e in let within = extent_within rules bytes m.offset in omega arith

  pub pass_onward : (t₁ : List ℕ) (m₁ : Moved) → ◌≡◌ {A = List ℕ × Moved} (t₁, m₁) (pass_of rules bytes m t) → m.offset ≤ m₁.offset
  unfolding pass_of
  pass_onward t₁ m₁ e = let ends = ap (λ (x : List ℕ × Moved). x.1.offset) e in omega arith
