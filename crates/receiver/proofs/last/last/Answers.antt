-- `last` gives the listing at the end of the bytes.
-- A usable state has at most eight blocks. Assumes nothing.
use native.Mathlib.Omega.{arith}
use Rattle.receiver.proofs.Bounds.{bounds_range, usable_bounds}
use Rattle.receiver.proofs.last.last.Goals as goal

pub new-lookup-requires : goal.new-lookup-requires
new-lookup-requires c =
    let a = c.args in
    let blocks = (bounds_range a.state (usable_bounds a.state a.rules.now a.kept.now c.requires.0)).blocks in
    omega arith
