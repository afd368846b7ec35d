-- `walk_on` gives what the records of some bytes leave.
-- The pass ends within the bytes, and the rest of them is kept. Assumes nothing.
use native.Mathlib.Omega.{arith}
use Rattle.receiver.specs.Lookups.{rules_of}
use Rattle.receiver.proofs.Passes.{pass_within, pass_onward, moved_pass}
use Rattle.receiver.proofs.piece.walk_on.Goals as goal

pub overflow_sub-moved : goal.overflow_sub-moved
overflow_sub-moved c =
    let a = c.args in
    pass_onward (rules_of a.lookup) a.s.now a.moved.now a.spans.now c.pass.new.spans c.pass.result c.pass.ensures

pub keep-requires : goal.keep-requires
keep-requires c =
    let a = c.args in
    let ends = pass_within (rules_of a.lookup) a.s.now a.moved.now a.spans.now c.pass.new.spans c.pass.result c.pass.ensures in
    (omega arith, c.requires.1)

pub returns : goal.returns
returns c =
    let a = c.args in
    rw c.keep.ensures
    (moved_pass (rules_of a.lookup) a.s.now a.moved.now a.kept.now a.spans.now c.pass.new.spans c.pass.result c.pass.ensures)
