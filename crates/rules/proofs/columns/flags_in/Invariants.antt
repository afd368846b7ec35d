-- `flags_in` gives the union over the rows that apply.
-- The loop's invariant: the flags so far, with those of the rows still to come, are the whole union. Assumes nothing.
use mathlib.Core.Path.{◌≡◌}
use Prim.Native.Nat.{◌-◌}
use Rattle.rules.specs.Rules.{rules_of, with_rules, flags_of}
use Rattle.rules.specs.Columns.{rules_from}
use Rattle.rules.proofs.columns.flags_in.Given as goal

abbrev pub invariant-loop-row : goal.invariant-loop-row
invariant-loop-row l = with_rules l.word l.all (rules_of (rules_from l.columns l.row (l.row-end - l.row))) ≡ flags_of (rules_from l.columns 0 l.row-end) l.word
