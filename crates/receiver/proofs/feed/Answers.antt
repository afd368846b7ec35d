-- `feed` gives what a piece leaves, or its refusal.
-- By its tests, in their order. Assumes nothing.
use Rattle.std.proofs.Common.{rules, ◌≡◌, Bool, true, false, ◌||◌, ℕ, min, ◌≤◌, ltb, List, length, sym, arith}
use borrow.Author.Tests.{ltb-false}
use Rattle.basics.proofs.Bools.{neither}
use Rattle.region_rows.specs.Rows.{capacity, most_rows}
use Rattle.receiver.specs.Calls.{most_piece, least_room, usable}
use Rattle.receiver.specs.declared.State.{State}
use Rattle.receiver.proofs.Bounds.{InRange, bounds_range, usable_bounds}
use Rattle.receiver.proofs.Calls.{room_used, feed_unusable, feed_badly, feed_long, feed_taken}
use Rattle.receiver.proofs.feed.Goals as goal

ranges : (s : State) (columns kept : List ℕ) → usable s columns kept ≡ true → InRange s
ranges s columns kept good = bounds_range s (usable_bounds s columns kept good)

-- the test of the piece and the table, by all the table's room
tested : (piece t : List ℕ) (room : ℕ) {b : Bool} → room ≡ min (capacity t) most_rows → (ltb most_piece (length piece) || ltb room least_room) ≡ b
    → (ltb most_piece (length piece) || ltb (capacity t) least_room) ≡ b
tested piece t room e h = rw (sym (room_used t room e)) h

-- piece and table are well
fits : (piece t : List ℕ) → (ltb most_piece (length piece) || ltb (capacity t) least_room) ≡ false → (length piece ≤ most_piece) × (least_room ≤ capacity t)
fits piece t h =
    let apart = neither (ltb most_piece (length piece)) (ltb (capacity t) least_room) h in
    (ltb-false most_piece (length piece) apart.0, ltb-false (capacity t) least_room apart.1)

pub returns-in_default : goal.returns-in_default
returns-in_default c =
    let a = c.args in
    let bad : usable a.state a.rules.now a.kept.now ≡ false = search rules in
    feed_unusable a.state a.rules.now a.piece.now a.kept.now a.spans.now bad

pub returns-then-piece-room_of : goal.returns-then-piece-room_of
returns-then-piece-room_of c =
    let a = c.args in
    let good : usable a.state a.rules.now a.kept.now ≡ true = search rules in
    feed_badly a.state a.rules.now a.piece.now a.kept.now a.spans.now good (tested a.piece.now a.spans.now c.room_of.result c.room_of.ensures c.if-piece-room_of.true)

pub overflow_add-taken : goal.overflow_add-taken
overflow_add-taken c =
    let a = c.args in
    let good : usable a.state a.rules.now a.kept.now ≡ true = search rules in
    let taken = (ranges a.state a.rules.now a.kept.now good).taken in
    let few = (fits a.piece.now a.spans.now (tested a.piece.now a.spans.now c.room_of.result c.room_of.ensures c.if-piece-room_of.false)).0 in
    omega arith

pub returns-then-taken : goal.returns-then-taken
returns-then-taken c =
    let a = c.args in
    let good : usable a.state a.rules.now a.kept.now ≡ true = search rules in
    let well = tested a.piece.now a.spans.now c.room_of.result c.room_of.ensures c.if-piece-room_of.false in
    rw c.shut.ensures (feed_long a.state a.rules.now a.piece.now a.kept.now a.spans.now good well c.if-taken.true)

pub overflow_add-after : goal.overflow_add-after
overflow_add-after c =
    let a = c.args in
    let good : usable a.state a.rules.now a.kept.now ≡ true = search rules in
    let q = ranges a.state a.rules.now a.kept.now good in
    let rows = q.rows in
    let offset = q.offset in
    let taken = q.taken in
    omega arith

pub returns : goal.returns
returns c =
    let a = c.args in
    let moved = c.take_piece-moved in
    let good : usable a.state a.rules.now a.kept.now ≡ true = search rules in
    let rules_are : c.in-Some.lookup.rules.now ≡ a.rules.now = search rules in
    let blocks_are : c.in-Some.lookup.blocks ≡ a.state.rule_blocks = search rules in
    let well = tested a.piece.now a.spans.now c.room_of.result c.room_of.ensures c.if-piece-room_of.false in
    let fit = fits a.piece.now a.spans.now well in
    let used = (ranges a.state a.rules.now a.kept.now good).used in
    rw c.from.ensures
    (feed_taken a.state a.rules.now a.piece.now a.kept.now a.spans.now good well c.if-taken.false fit.0 fit.1 a.state.stage used
    moved.new.kept moved.new.spans moved.result (rw (rules_are, blocks_are) at moved.ensures))
