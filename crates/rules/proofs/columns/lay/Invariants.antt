-- `lay` lays a table out by columns.
-- The loop's invariant: the columns so far, with the rows still to come, are the table's. Assumes nothing.
use mathlib.Core.Path.{◌≡◌}
use Prim.Native.Nat.{◌*◌}
use lib.ListN.{length, drop}
use Rattle.rules.specs.Rules.{rules_of}
use Rattle.rules.specs.Columns.{with_rows_from, columns_of}
use Rattle.rules.proofs.columns.lay.Given as goal

abbrev pub invariant-loop-row : goal.invariant-loop-row
invariant-loop-row l = record {
  long : length l.columns ≡ 192;
  same : with_rows_from l.columns l.row (rules_of (drop (l.row * 3) l.rules)) ≡ columns_of l.rules;
}
