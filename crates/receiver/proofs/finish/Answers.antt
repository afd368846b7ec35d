-- `finish` gives what the end of the bytes leaves, or its refusal.
-- By its tests, in their order. Assumes nothing.
use Rattle.std.proofs.Common.{rules, ◌≡◌, true, false, sym, ◌∙◌}
use borrow.Author.Tests.{lt-ltb, le-ltb}
use Rattle.receiver.specs.Calls.{least_room, usable}
use Rattle.receiver.proofs.Calls.{room_used, finish_unusable, finish_badly, finish_well}
use Rattle.receiver.proofs.finish.Goals as goal

pub returns-in_default : goal.returns-in_default
returns-in_default c =
    let a = c.args in
    let bad : usable a.state a.rules.now a.kept.now ≡ false = search rules in
    finish_unusable a.state a.rules.now a.kept.now a.spans.now bad

pub returns-then-room_of-lt-LEAST_ROOM : goal.returns-then-room_of-lt-LEAST_ROOM
returns-then-room_of-lt-LEAST_ROOM c =
    let a = c.args in
    let good : usable a.state a.rules.now a.kept.now ≡ true = search rules in
    let room = room_used a.spans.now c.room_of.result c.room_of.ensures in
    finish_badly a.state a.rules.now a.kept.now a.spans.now good (sym room ∙ lt-ltb c.room_of.result least_room c.if-room_of-lt-LEAST_ROOM.true)

pub returns : goal.returns
returns c =
    let a = c.args in
    let ending = c.last_with-listing in
    let good : usable a.state a.rules.now a.kept.now ≡ true = search rules in
    let rules_are : c.in-Some.seen.rules.now ≡ a.rules.now = search rules in
    let blocks_are : c.in-Some.seen.blocks ≡ a.state.rule_blocks = search rules in
    let room = room_used a.spans.now c.room_of.result c.room_of.ensures in
    rw c.shut.ensures
    (finish_well a.state a.rules.now a.kept.now a.spans.now good (sym room ∙ le-ltb c.room_of.result least_room c.if-room_of-lt-LEAST_ROOM.false)
    ending.new.spans ending.result (rw (rules_are, blocks_are) at ending.ensures))
