-- `flags_in` gives the union over the rows that apply.
-- The loop's invariant: the flags so far, with those of the rows still to come, are the whole union. Assumes nothing.
use mathlib.Core.Path.{sym, ◌∙◌}
use Prim.Native.Nat.{◌*◌}
use native.Mathlib.Nat.{sub-zero}
use native.Mathlib.Omega.{arith}
use Rattle.rules.specs.Rules.{flags_of}
use Rattle.rules.proofs.Laws.{looked, none_left}
use Rattle.rules.proofs.ColumnRows.{columns_step, columns_end}
use Rattle.rules.proofs.columns.flags_in.Goals as goal

pub loop-row-init : goal.loop-row-init
unfolding flags_of
loop-row-init c = rw sub-zero

pub loop-row-preserved : goal.loop-row-preserved
loop-row-preserved c =
    let l = c.loop-row in
    let a = c.args in
    looked a.word l.all c.flags_given-all.result (columns_step a.columns.now l.row (a.blocks * 8) (omega arith)) c.flags_given-all.ensures ∙ l.invariant

pub returns : goal.returns
returns c =
    let l = c.loop-row in
    let a = c.args in
    sym (none_left a.word l.all (columns_end a.columns.now l.row (a.blocks * 8) (omega arith))) ∙ l.invariant
