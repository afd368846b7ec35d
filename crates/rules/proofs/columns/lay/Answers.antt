-- `lay` lays a table out by columns.
-- The loop's invariant: the columns so far, with the rows still to come, are the table's. Assumes nothing.
use mathlib.Core.Path.{◌≡◌, sym, ◌∙◌}
use Prim.Native.Nat.{◌+◌, ◌*◌}
use native.Mathlib.Omega.{arith}
use lib.ListN.{length-set}
use Rattle.rules.proofs.Rows.{rows_end, rows_step}
use Rattle.rules.proofs.ColumnRows.{rows_written, row_written}
use Rattle.rules.proofs.columns.lay.Goals as goal

pub loop-row-preserved : goal.loop-row-preserved
loop-row-preserved c =
    let l = c.loop-row in
    let rules = c.args.rules.now in
    let next : (l.row + 1) * 3 ≡ l.row * 3 + 3 = omega arith in
    record {
      long = simp length-set l.invariant.long;
      same = rw next (row_written l.columns l.row (rows_step rules (l.row * 3) (omega arith)) ∙ l.invariant.same);
    }

pub returns : goal.returns
returns c =
    let l = c.loop-row in
    sym (rows_written l.columns l.row (rows_end c.args.rules.now (l.row * 3) (omega arith))) ∙ l.invariant.same
