-- A feed that is answered 12 or 13 leaves no trace, and a 1 only shuts the receiver; one that is not has a short piece and room; none gives more rows than 600.
-- By the tests of a call, in their order. Assumes nothing.
use mathlib.Core.Path.{◌≡◌, refl, sym, ap}
use mathlib.Core.List.{List, [], ◌∷◌, ◌++◌}
use mathlib.Core.Bool.{Bool, true, false, true≢false, cond, ◌||◌}
use Prim.Native.Nat.{◌+◌, ◌≤◌}
use native.Mathlib.Omega.{arith}
use lib.Dec.{ltb}
use lib.ListN.{length}
use borrow.Author.Tests.{ltb-false}
use Rattle.answers.specs.Numbers as answer
use Rattle.answers.specs.Numbers.{most_bytes}
use Rattle.basics.proofs.Bools.{neither}
use Rattle.region_rows.specs.declared.Span.{Span}
use Rattle.region_rows.specs.Rows.{capacity, spans_in}
use Rattle.receiver.specs.Waiting.{Waiting, joined}
use Rattle.receiver.specs.Calls.{shut_down, rules_at, waiting_of, usable, most_piece, least_room, FeedOut, feed_refused, piece_taken, feed_out, feed_told}
use Rattle.receiver.specs.declared.refusal.Refusal.TheVariants.{BadPiece, TooLong, NotReceiving}
use Rattle.receiver.specs.declared.State.{State}
use Rattle.receiver.specs.declared.Receiver.{Receiver}
use Rattle.receiver_laws.specs.Received.{Call, called, Fits, AllFit, refuses, refused, without_refused, after_calls, rows_seen}
use Rattle.receiver.proofs.Pieces.{few_complete}
use Rattle.receiver.proofs.Calls.{none_settled}

module _ (r : Receiver) (c : Call) where
  abbrev s : State
  s = r.state

  -- a feed leaves a state, and all else as it was
  abbrev Leaves : State → FeedOut → Type 0
  Leaves left out = (out.2 ≡ left) × (out.0 ≡ r.kept) × (out.1 ≡ c.table) × ((feed_told out.3).0 ≡ 0)

  -- what a feed comes to
  record Turn (out : FeedOut) : Type 0 where
    untouched : refuses (feed_told out.3).1 ≡ true → Leaves s out
    closed : (feed_told out.3).1 ≡ answer.too_long → Leaves (shut_down s) out
    fits : refuses (feed_told out.3).1 ≡ false → Fits c
    few : (feed_told out.3).0 ≤ least_room

  turn : Turn (feed_out s r.rules c.piece r.kept c.table)
  unfolding feed_out piece_taken
  turn = by (usable s r.rules r.kept) refl (ltb most_piece (length c.piece) || ltb (capacity c.table) least_room) refl (ltb most_bytes (s.taken + length c.piece))
    where
      w : Waiting
      w = waiting_of s r.kept

      fit : (ltb most_piece (length c.piece) || ltb (capacity c.table) least_room) ≡ false → Fits c
      fit e =
          let q = neither (ltb most_piece (length c.piece)) (ltb (capacity c.table) least_room) e in
          let few = ltb-false most_piece (length c.piece) q.0 in
          let room = ltb-false (capacity c.table) least_room q.1 in
          record { few = omega arith; room = omega arith }

      by : (u : Bool) → usable s r.rules r.kept ≡ u → (p : Bool) → (ltb most_piece (length c.piece) || ltb (capacity c.table) least_room) ≡ p → (l : Bool)
          → Turn (cond u (cond p (feed_refused BadPiece s r.kept c.table)
          (cond l (feed_refused TooLong (shut_down s) r.kept c.table)
          (piece_taken (rules_at s r.rules) s (s.taken + length c.piece) (joined w c.piece) r.kept c.table)))
          (feed_refused NotReceiving s r.kept c.table))
      by false u p q l = record { untouched = λ e. (refl, refl, refl, refl); closed = λ e. absurd (omega arith); fits = λ e. absurd (true≢false e); few = omega arith }
      by true u true q l = record { untouched = λ e. (refl, refl, refl, refl); closed = λ e. absurd (omega arith); fits = λ e. absurd (true≢false e); few = omega arith }
      by true u false q true =
          record { untouched = λ e. absurd (true≢false (sym e)); closed = λ e. (refl, refl, refl, refl); fits = λ e. fit q; few = omega arith }
      by true u false q false =
          record {
            untouched = λ e. absurd (true≢false (sym e));
            closed = λ e. absurd (omega arith);
            fits = λ e. fit q;
            few = few_complete (rules_at s r.rules) w.bytes c.piece w.offset (none_settled s r.rules r.kept u) (fit q).few;
          }

  pub rows_suffice : (called r c).2 ≤ least_room
  rows_suffice = turn.few

  pub taken_fits : refused r c ≡ false → Fits c
  taken_fits e = turn.fits e

  -- the receiver with a state, the table, and no row
  leaves : (left : State) → Leaves left (feed_out s r.rules c.piece r.kept c.table)
      → ((called r c).0 ≡ record { state = left; rules = r.rules; kept = r.kept }) × ((called r c).1 ≡ c.table) × ((called r c).2 ≡ 0)
  leaves left q = (λ i. record { state = q.0 i; rules = r.rules; kept = q.1 i }, q.2, q.3)

  -- a 12 or 13 changes neither the receiver nor the table
  pub refused_leaves : refused r c ≡ true → ((called r c).0 ≡ r) × ((called r c).1 ≡ c.table) × ((called r c).2 ≡ 0)
  refused_leaves e = leaves s (turn.untouched e)

  -- nor does a 1, but that it shuts the receiver
  pub too_long_shuts : (called r c).3 ≡ answer.too_long
      → ((called r c).0 ≡ record { state = shut_down s; rules = r.rules; kept = r.kept }) × ((called r c).1 ≡ c.table) × ((called r c).2 ≡ 0)
  too_long_shuts e = leaves (shut_down s) (turn.closed e)

-- ---- several calls

-- calls that give the same rows and leave the same receiver
abbrev Traces : Receiver → List Call → List Call → Type 0
Traces r cs ds = (rows_seen r cs ≡ rows_seen r ds) × (after_calls r cs ≡ after_calls r ds)

-- those that are refused may be left out
pub refused_leave_no_trace : (r : Receiver) (cs : List Call)
    → (rows_seen r (without_refused r cs) ≡ rows_seen r cs) × (after_calls r (without_refused r cs) ≡ after_calls r cs)
unfolding without_refused rows_seen after_calls spans_in
refused_leave_no_trace r [] = (refl, refl)
refused_leave_no_trace r (c ∷ cs) = by (refused r c) refl (refused_leave_no_trace r cs) (refused_leave_no_trace (called r c).0 cs)
  where
    by : (b : Bool) → refused r c ≡ b → Traces r (without_refused r cs) cs → Traces (called r c).0 (without_refused (called r c).0 cs) cs
        → Traces r (cond b (without_refused r cs) (c ∷ without_refused (called r c).0 cs)) (c ∷ cs)
    by true e out after = let q = refused_leaves r c e in rw (q.0, q.2) out
    by false e out after = (ap (λ (rs : List Span). spans_in (called r c).1 (called r c).2 ++ rs) after.0, after.1)

-- the others have short pieces, and room
pub taken_fit : (r : Receiver) (cs : List Call) → AllFit (without_refused r cs)
unfolding without_refused AllFit
taken_fit r [] = tt
taken_fit r (c ∷ cs) = by (refused r c) refl (taken_fit r cs) (taken_fit (called r c).0 cs)
  where
    by : (b : Bool) → refused r c ≡ b → AllFit (without_refused r cs) → AllFit (without_refused (called r c).0 cs)
        → AllFit (cond b (without_refused r cs) (c ∷ without_refused (called r c).0 cs))
    by true e out after = out
    by false e out after = (taken_fits r c e, after)
