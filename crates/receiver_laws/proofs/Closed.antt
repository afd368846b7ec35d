-- A receiver that is shut is answered 13 and stays as it is; a finish that is not refused shuts one, and gives one row at most.
-- By the tests of the calls, in their order. Assumes nothing.
use mathlib.Core.Path.{◌≡◌, refl, sym, ap, ◌∙◌}
use mathlib.Core.List.{List, [], ◌∷◌}
use mathlib.Core.Bool.{Bool, true, false, true≢false, cond}
use mathlib.Core.Logic.{⊎_elim}
use Prim.Native.Nat.{ℕ, ◌≤◌, ◌<◌}
use native.Mathlib.Omega.{arith}
use lib.Dec.{ltb}
use lib.ListN.{length, get_or, replicate}
use Rattle.answers.specs.Numbers as answer
use Rattle.basics.proofs.Orders.{le_or_lt}
use Rattle.region_rows.specs.Rows.{capacity}
use Rattle.region_try.specs.Tries.{Try, none, hit, rows_found}
use Rattle.region.specs.Listing.{number_of}
use Rattle.region.specs.declared.Answer.{Answer}
use Rattle.region.specs.declared.Answer.TheVariants.{Done, TooLong, BadRules, NotCper, BadHeader, BadType, Empty, SpansFull, TriesSpent}
use Rattle.receiver.specs.Arrived.{top_tries, arrived}
use Rattle.receiver.specs.Waiting.{Waiting, last_listing}
use Rattle.receiver.specs.Calls.{shut, shut_down, rules_at, waiting_of, in_bounds, sound, usable, least_room, feed_out, FinishOut, finish_refused, finished, finish_out, finish_told, finished_out}
use Rattle.receiver.specs.declared.refusal.Refusal.TheVariants.{BadPiece, NotReceiving}
use Rattle.receiver.specs.declared.State.{State}
use Rattle.receiver.specs.declared.Receiver.{Receiver}
use Rattle.receiver.proofs.Arrived.{top_try, top_end, top_alone}
use Rattle.receiver_laws.specs.Received.{Call, called, refuses}
use Rattle.receiver.proofs.Calls.{none_settled}

-- ---- a receiver that is shut

module _ (r : Receiver) (is : r.state.stage ≡ shut) where
  shut_unusable : usable r.state r.rules r.kept ≡ false
  unfolding usable sound in_bounds
  shut_unusable = rw is

  pub shut_feed : (c : Call) → ◌≡◌ {A = Receiver × List ℕ × ℕ × ℕ} (called r c) (r, c.table, 0, answer.not_receiving)
  unfolding feed_out
  shut_feed c = rw shut_unusable

  pub shut_finish : (t : List ℕ) → ◌≡◌ {A = Receiver × List ℕ × List ℕ × ℕ} (finished_out r t) (r, t, replicate 5 0, answer.not_receiving)
  unfolding finish_out
  shut_finish t = rw shut_unusable

-- ---- a finish

-- the end of bytes of which none is all in settles one row at most
one_row : (rules bytes : List ℕ) (offset : ℕ) → arrived rules bytes offset ≡ [] → length (rows_found (top_tries rules bytes offset)) ≤ 1
unfolding rows_found
one_row rules bytes offset waits = ⊎_elim
    (λ (end : length bytes ≤ 0). rw (top_end rules bytes offset end) (omega arith))
    (λ (some : 0 < length bytes). rw (top_alone rules bytes offset some waits) (by (top_try rules bytes offset)))
    (le_or_lt (length bytes) 0)
  where
    by : (v : Try) → length (rows_found (v ∷ [])) ≤ 1
    by (none level offset head) = omega arith
    by (hit r) = omega arith

-- no answer of a listing is a refusal's
listing_answers : (a : Answer) → refuses (number_of a) ≡ false
listing_answers Done = refl
listing_answers TooLong = refl
listing_answers BadRules = refl
listing_answers NotCper = refl
listing_answers BadHeader = refl
listing_answers (BadType t) = refl
listing_answers Empty = refl
listing_answers SpansFull = refl
listing_answers TriesSpent = refl

module _ (r : Receiver) (t : List ℕ) where
  -- what a finish comes to
  record Turn (out : FinishOut) : Type 0 where
    untouched : refuses (finish_told out.2).1 ≡ true → (out.1 ≡ r.state) × (out.0 ≡ t)
    shuts : refuses (finish_told out.2).1 ≡ false → out.1 ≡ shut_down r.state
    few : get_or (finish_told out.2).0 0 0 ≤ 1

  turn : Turn (finish_out r.state r.rules r.kept t)
  unfolding finish_out finished last_listing
  turn = by (usable r.state r.rules r.kept) refl (ltb (capacity t) least_room)
    where
      rules : List ℕ
      rules = rules_at r.state r.rules

      w : Waiting
      w = waiting_of r.state r.kept

      by : (u : Bool) → usable r.state r.rules r.kept ≡ u → (p : Bool)
          → Turn (cond u (cond p (finish_refused BadPiece r.state t) (finished rules r.state w t)) (finish_refused NotReceiving r.state t))
      by false u p = record { untouched = λ e. (refl, refl); shuts = λ e. absurd (true≢false e); few = omega arith }
      by true u true = record { untouched = λ e. (refl, refl); shuts = λ e. absurd (true≢false e); few = omega arith }
      by true u false =
          record {
            untouched = λ e. absurd (true≢false (sym e ∙ listing_answers (last_listing rules w).answer));
            shuts = λ e. refl;
            few = one_row rules w.bytes w.offset (none_settled r.state r.rules r.kept u);
          }

  pub finish_refused_leaves : refuses (finished_out r t).3 ≡ true → ((finished_out r t).0 ≡ r) × ((finished_out r t).1 ≡ t)
  finish_refused_leaves e = let q = turn.untouched e in (ap (λ (s : State). record { state = s; rules = r.rules; kept = r.kept }) q.0, q.1)

  pub finish_shuts : refuses (finished_out r t).3 ≡ false → (finished_out r t).0.state ≡ shut_down r.state
  finish_shuts e = turn.shuts e

  pub finish_one_row : get_or (finished_out r t).2 0 0 ≤ 1
  finish_one_row = turn.few
