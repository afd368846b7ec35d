-- `fill` lays a valid table out.
-- They hold its rows, and no flag past them. Assumes nothing.
use native.Mathlib.Omega.{arith}
use Rattle.rules.proofs.Laws.{valid_rows}
use Rattle.rules.proofs.ColumnRows.{columns_hold}
use Rattle.rules.proofs.columns.Columns.fill.Goals as goal

pub lay-requires-clause-rows : goal.lay-requires-clause-rows
lay-requires-clause-rows c = valid_rows c.args.rules.now c.requires

pub invariant_of-self : goal.invariant_of-self
invariant_of-self c =
    let rules = c.args.rules.now in
    let whole = valid_rows rules c.requires in
    (omega (arith, whole.1), rw c.lay.ensures (columns_hold rules whole.0 whole.1).blank)

pub returns : goal.returns
returns c =
    let rules = c.args.rules.now in
    let whole = valid_rows rules c.requires in
    rw c.lay.ensures (columns_hold rules whole.0 whole.1).held
