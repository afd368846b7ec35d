-- What `feed` and `finish` give, by the tests that they make.
-- By the definitions' tests, in their order. Assumes nothing.
use mathlib.Core.Path.{◌≡◌, refl, sym, ap, ◌∙◌}
use mathlib.Core.List.{List, [], ◌∷◌, ◌++◌}
use mathlib.Core.Bool.{true, false, ◌||◌}
use mathlib.Core.Logic.{⊎_elim}
use Prim.Native.Nat.{ℕ, min, ◌+◌, ◌*◌, ◌≤◌, ◌<◌}
use native.Mathlib.Nat.{zero-add}
use native.Mathlib.Omega.{arith}
use lib.Dec.{ltb}
use Rattle.std.specs.Prelude.{Ok}
use lib.ListN.{length}
use borrow.Author.Tests.{lt-ltb, le-ltb, eqb-true}
use Rattle.answers.specs.Numbers.{most_bytes}
use Rattle.basics.proofs.Bools.{both}
use Rattle.basics.proofs.Orders.{le_or_lt}
use Rattle.header_judge.specs.Version.{bit}
use Rattle.region_rows.specs.declared.Span.{Span}
use Rattle.region_rows.specs.Rows.{width, capacity, most_rows, stored, laid}
use Rattle.region_rows.proofs.Rows.{stored_laid}
use Rattle.region.specs.declared.Listing.{Listing}
use Rattle.receiver.specs.Arrived.{arrived}
use Rattle.receiver.specs.Waiting.{settled}
use Rattle.receiver.specs.Calls.{most_piece, least_room, shut_down, in_use, state_of, rules_at, waiting_of, sound, usable, FeedOut, feed_refused, piece_taken, feed_out, FinishOut, finish_refused, finished, finish_out}
use Rattle.receiver.specs.Steps.{moved_of, taken_of, last_of}
use Rattle.receiver.specs.declared.State.{State}
use Rattle.receiver.specs.declared.refusal.Refusal.TheVariants.{BadPiece, TooLong, NotReceiving}
use Rattle.receiver.specs.declared.piece.Moved.{Moved}
use Rattle.receiver.proofs.Pieces.{few_complete}

-- the rows that are used are under 600 where those that there are are
pub room_used : (t : List ℕ) (room : ℕ) → room ≡ min (capacity t) most_rows → ltb room least_room ≡ ltb (capacity t) least_room
room_used t room e =
    ⊎_elim
    (λ (h : capacity t ≤ most_rows). let same : room ≡ capacity t = omega arith in rw same)
    (λ (h : most_rows < capacity t). le-ltb room least_room (omega arith) ∙ sym (le-ltb (capacity t) least_room (omega arith)))
    (le_or_lt (capacity t) most_rows)

-- room for 600 rows
pub room_enough : (t : List ℕ) → least_room ≤ capacity t → least_room * width ≤ length t
room_enough t h = omega arith

-- nothing of what a usable receiver waits for is all in
pub none_settled : (s : State) (columns kept : List ℕ) → usable s columns kept ≡ true → settled (rules_at s columns) (waiting_of s kept) ≡ []
unfolding usable
none_settled s columns kept e = none_left (settled (rules_at s columns) (waiting_of s kept)) (eqb-true _ 0 (both (sound s columns) _ e).1)
  where
    none_left : (rs : List Span) → length rs ≡ 0 → rs ≡ []
    none_left [] z = refl
    none_left (r ∷ rs) z = absurd (omega arith)

-- ---- feed

module _ (s : State) (columns piece kept t : List ℕ) where
  pub feed_unusable : usable s columns kept ≡ false → feed_refused NotReceiving s kept t ≡ feed_out s columns piece kept t
  unfolding feed_out
  feed_unusable e = rw e

  module _ (good : usable s columns kept ≡ true) where
    pub feed_badly : (ltb most_piece (length piece) || ltb (capacity t) least_room) ≡ true → feed_refused BadPiece s kept t ≡ feed_out s columns piece kept t
    unfolding feed_out
    feed_badly e = rw (good, e)

    module _ (well : (ltb most_piece (length piece) || ltb (capacity t) least_room) ≡ false) where
      pub feed_long : most_bytes < s.taken + length piece → feed_refused TooLong (shut_down s) kept t ≡ feed_out s columns piece kept t
      unfolding feed_out
      feed_long h = rw (good, well, lt-ltb most_bytes (s.taken + length piece) h)

      -- the piece is taken, from where the state stands
      pub feed_taken : s.taken + length piece ≤ most_bytes → length piece ≤ most_piece → least_room ≤ capacity t
          → (stage : ℕ) → stage ≡ in_use
          → (kept₁ t₁ : List ℕ) (m : Moved)
          → ◌≡◌ {A = List ℕ × List ℕ × Moved} (kept₁, t₁, m) (taken_of (rules_at s columns) s piece kept t)
          → ◌≡◌ {A = FeedOut}
          (kept₁, t₁, state_of (s.taken + length piece) m.offset (s.rows + m.rows) s.rule_blocks (bit m.whole) stage, Ok m.rows)
          (feed_out s columns piece kept t)
      unfolding feed_out piece_taken moved_of
      feed_taken h few room stage used kept₁ t₁ m e =
          let w = waiting_of s kept in
          let rs = arrived (rules_at s columns) (w.bytes ++ piece) s.offset in
          let rows : length rs ≤ least_room = few_complete (rules_at s columns) w.bytes piece s.offset (none_settled s columns kept good) few in
          let table : stored t 0 rs ≡ laid rs t = stored_laid rs t (omega (arith, room_enough t room)) in
          ap (λ (x : List ℕ × List ℕ × Moved).
          (x.0, x.1, state_of (s.taken + length piece) x.2.offset (s.rows + x.2.rows) s.rule_blocks (bit x.2.whole) stage, Ok x.2.rows)) e
          ∙ rw (used, good, well, le-ltb most_bytes (s.taken + length piece) h, table, zero-add (length rs))

-- ---- finish

module _ (s : State) (columns kept t : List ℕ) where
  pub finish_unusable : usable s columns kept ≡ false → finish_refused NotReceiving s t ≡ finish_out s columns kept t
  unfolding finish_out
  finish_unusable e = rw e

  module _ (good : usable s columns kept ≡ true) where
    pub finish_badly : ltb (capacity t) least_room ≡ true → finish_refused BadPiece s t ≡ finish_out s columns kept t
    unfolding finish_out
    finish_badly e = rw (good, e)

    pub finish_well : ltb (capacity t) least_room ≡ false → (t₁ : List ℕ) (l : Listing)
        → ◌≡◌ {A = List ℕ × Listing} (t₁, l) (last_of (rules_at s columns) (waiting_of s kept) t)
        → ◌≡◌ {A = FinishOut} (t₁, shut_down s, Ok l) (finish_out s columns kept t)
    unfolding finish_out finished last_of
    finish_well e t₁ l q = ap (λ (x : List ℕ × Listing). (x.0, shut_down s, Ok x.1)) q ∙ rw (good, e)
