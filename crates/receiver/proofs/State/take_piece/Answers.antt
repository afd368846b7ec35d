-- `take_piece` gives what a piece leaves.
-- With nothing held the piece is walked where it lies; else after what is held. Assumes nothing.
use native.Mathlib.Omega.{arith}
use Rattle.receiver.proofs.Bounds.{bounds_range, usable_bounds, usable_waits}
use Rattle.receiver.proofs.State.take_piece.Goals as goal

pub held-held-requires : goal.held-held-requires
held-held-requires c =
    let a = c.args in
    (bounds_range a.self (usable_bounds a.self a.lookup.rules.now a.kept.now c.requires.usable.0)).offset

pub walk_on-requires : goal.walk_on-requires
walk_on-requires c =
    let a = c.args in
    let q = bounds_range a.self (usable_bounds a.self a.lookup.rules.now a.kept.now c.requires.usable.0) in
    let offset = q.offset in
    let taken = q.taken in
    let room = c.requires.lengths in
    ((omega arith, omega arith, omega arith), room.1)

pub after_held-requires-clause-room : goal.after_held-requires-clause-room
after_held-requires-clause-room c =
    let a = c.args in
    let q = bounds_range a.self (usable_bounds a.self a.lookup.rules.now a.kept.now c.requires.usable.0) in
    let offset = q.offset in
    let taken = q.taken in
    let room = c.requires.lengths in
    let held = c.held-held.ensures in
    ((omega arith, omega arith, omega arith), omega arith)

pub after_held-requires-clause-waits : goal.after_held-requires-clause-waits
after_held-requires-clause-waits c =
    let a = c.args in
    rw (c.held-held.ensures, c.requires.usable.1) (usable_waits a.self a.lookup.rules.now a.kept.now c.requires.lengths.1 c.requires.usable.0)
