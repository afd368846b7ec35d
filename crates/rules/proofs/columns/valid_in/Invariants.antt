-- `valid_in` tells whether the rows of some blocks are a valid table.
-- The loop's invariant: the table is valid exactly when the flags so far and those of the rows still to come are small. Assumes nothing.
use mathlib.Core.Path.{◌≡◌}
use mathlib.Core.Bool.{◌&&◌}
use Prim.Native.Nat.{◌-◌}
use Rattle.rules.specs.Rules.{rules_of, flags_small, valid_of}
use Rattle.rules.specs.Columns.{rules_from}
use Rattle.rules.proofs.columns.valid_in.Given as goal

abbrev pub invariant-loop-row : goal.invariant-loop-row
invariant-loop-row l = (l.small && flags_small (rules_of (rules_from l.columns l.row (l.row-end - l.row)))) ≡ valid_of (rules_from l.columns 0 l.row-end)
