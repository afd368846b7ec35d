-- A started receiver stands after no bytes; a piece makes it stand after the piece too, and lays the rows that are new; a finish lays the last row and tells the end.
-- It is usable, so nothing but the piece, the table and the length can be refused. Assumes nothing.
use mathlib.Core.Path.{◌≡◌, refl, sym, ap, subst, ◌∙◌}
use mathlib.Core.List.{List, [], ◌++◌}
use mathlib.Core.Bool.{true}
use Prim.Native.Nat.{ℕ, ◌+◌, ◌≤◌}
use native.Mathlib.Omega.{arith}
use lib.ListN.{length, length-append, length-replicate}
use borrow.Author.Tests.{le-ltb}
use Rattle.answers.specs.Numbers as answer
use Rattle.answers.specs.Numbers.{most_bytes}
use Rattle.rules.specs.Rules.{valid_of}
use Rattle.region_rows.specs.declared.Span.{Span}
use Rattle.region_rows.specs.Rows.{capacity, laid}
use Rattle.region_try.specs.Tries.{rows_found}
use Rattle.region.specs.Listing.{number_of, listing_told}
use Rattle.region.specs.declared.Listing.{Listing}
use Rattle.receiver.specs.Arrived.{top_tries, all_in, extent, whole_with}
use Rattle.receiver.specs.Waiting.{Waiting, past, joined, settled, walked_on, last_tries, last_listing}
use Rattle.receiver.specs.Calls.{most_kept, held_in, rules_at, waiting_of, started, most_piece, least_room, FeedOut, taken_in, piece_taken, feed_out, feed_told, fed_out, FinishOut, finished, finish_out, finish_told, finished_out}
use Rattle.receiver.specs.declared.State.{State}
use Rattle.receiver.specs.declared.Receiver.{Receiver}
use Rattle.receiver.proofs.Arrived.{arrived_end}
use Rattle.receiver.proofs.Taken.{taken_length}
use Rattle.receiver_laws.specs.Stands.{after, Stands}
use Rattle.receiver_laws.specs.Received.{Bytes}
use Rattle.receiver_laws.proofs.After.{after_piece}
use Rattle.receiver_laws.proofs.Waits.{SameWait, same_settled, same_walked, same_tries, same_listing}
use Rattle.receiver_laws.proofs.Stands.{stands_at_lem, same_wait, waits, tries_are, stands_usable}

pub started_stands : (rules : List ℕ) → Stands rules [] (started rules)
unfolding started extent whole_with
started_stands rules =
    let none = arrived_end rules [] 0 (omega arith) in
    record { state = rw none; columns = refl; kept = rw none; room = length-replicate {A = ℕ} most_kept 0 }

module _ (rules bytes : List ℕ) (r : Receiver) (stands : Stands rules bytes r) (valid : valid_of rules ≡ true) (small : Bytes bytes) where
  -- what it waits for, and its rules
  abbrev waiting : Waiting
  waiting = waiting_of r.state r.kept

  abbrev ruled : List ℕ
  ruled = rules_at r.state r.rules

  same : SameWait waiting (after rules bytes)
  same = same_wait rules bytes r stands

  none : settled rules (after rules bytes) ≡ []
  none = waits rules bytes r stands

  -- ---- a piece

  module _ (piece t : List ℕ) (few : length piece ≤ most_piece) (room : least_room ≤ capacity t) (short : length (bytes ++ piece) ≤ most_bytes) where
    -- the rows that are new
    abbrev new : List Span
    new = settled rules (joined (after rules bytes) piece)

    long : r.state.taken + length piece ≡ length (bytes ++ piece)
    long = rw stands.state (sym (length-append bytes piece))

    taken : feed_out r.state r.rules piece r.kept t ≡ piece_taken ruled r.state (r.state.taken + length piece) (joined waiting piece) r.kept t
    unfolding feed_out
    taken =
        let before : length bytes ≤ most_bytes = omega (arith, length-append bytes piece) in
        let fits : r.state.taken + length piece ≤ most_bytes = omega (arith, long) in
        rw (stands_usable rules bytes r stands valid small before, le-ltb most_piece (length piece) few, le-ltb (capacity t) least_room room, le-ltb most_bytes _ fits)

    new_are : settled ruled (joined waiting piece) ≡ settled rules (joined waiting piece)
    new_are = ap all_in (tries_are rules bytes r stands valid (joined waiting piece).bytes (joined waiting piece).offset)

    wait_is : SameWait (walked_on ruled (joined waiting piece)) (after rules (bytes ++ piece))
    wait_is =
        subst (λ (w : Waiting). SameWait w (after rules (bytes ++ piece))) (sym (ap (past (joined waiting piece)) new_are))
        (subst (SameWait (walked_on rules (joined waiting piece))) (after_piece rules bytes piece) (same_walked rules waiting (after rules bytes) same none piece))

    pub fed_stands : Stands rules (bytes ++ piece) (fed_out r piece t).0
    unfolding piece_taken
    fed_stands =
        let blocks = ap (λ (s : State). s.rule_blocks) stands.state in
        let came = (joined waiting piece).bytes in
        rw taken (stands_at_lem rules (bytes ++ piece) r.state (r.state.taken + length piece) (walked_on ruled (joined waiting piece)) r.rules (taken_in (held_in r.state) came r.kept)
        wait_is long blocks stands.columns (taken_length (held_in r.state) came r.kept stands.room))

    pub fed_rows : ((fed_out r piece t).1 ≡ laid new t) × ((fed_out r piece t).2 ≡ length new)
    unfolding piece_taken
    fed_rows = let rows = new_are ∙ same_settled rules waiting (after rules bytes) same none piece in (rw (taken, rows), rw (taken, rows))

    pub fed_answer : (fed_out r piece t).3 ≡ answer.done
    unfolding piece_taken
    fed_answer = ap (λ (out : FeedOut). (feed_told out.3).1) taken

  -- ---- the end

  module _ (t : List ℕ) (room : least_room ≤ capacity t) (short : length bytes ≤ most_bytes) where
    ended : finish_out r.state r.rules r.kept t ≡ finished ruled r.state waiting t
    unfolding finish_out
    ended = rw (stands_usable rules bytes r stands valid small short, le-ltb (capacity t) least_room room)

    tries : top_tries ruled waiting.bytes waiting.offset ≡ top_tries rules waiting.bytes waiting.offset
    tries = tries_are rules bytes r stands valid waiting.bytes waiting.offset

    listing : last_listing ruled waiting ≡ last_listing rules (after rules bytes)
    unfolding last_listing
    listing = rw tries (same_listing rules waiting (after rules bytes) same none)

    pub finished_table : (finished_out r t).1 ≡ laid (rows_found (last_tries rules (after rules bytes))) t
    unfolding finished
    finished_table = rw (ended, tries ∙ same_tries rules waiting (after rules bytes) same none)

    pub finished_told : (finished_out r t).2 ≡ listing_told (last_listing rules (after rules bytes))
    unfolding finished
    finished_told = rw (ended, listing)

    pub finished_answer : (finished_out r t).3 ≡ number_of (last_listing rules (after rules bytes)).answer
    unfolding finished
    finished_answer = ap (λ (out : FinishOut). (finish_told out.2).1) ended ∙ ap (λ (l : Listing). number_of l.answer) listing
