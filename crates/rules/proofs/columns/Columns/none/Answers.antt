-- `none` gives the columns of an empty table.
-- They have no row, and no flag. Assumes nothing.
use native.Mathlib.Omega.{arith}
use Prim.Native.Nat.{◌+◌}
use lib.ListN.{replicate}
use Rattle.rules.proofs.ColumnRows.{zero_at, from_none}
use Rattle.rules.proofs.columns.Columns.none.Goals as goal

pub invariant_of-result : goal.invariant_of-result
invariant_of-result c = (omega arith, λ row _. zero_at 192 (row + 128))

pub returns : goal.returns
returns c = from_none (replicate 192 0) 0
