-- `valid_in` tells whether the rows of some blocks are a valid table.
-- The loop's invariant: the table is valid exactly when the flags so far and those of the rows still to come are small. Assumes nothing.
use mathlib.Core.Path.{◌≡◌, refl, ◌∙◌}
use mathlib.Core.Bool.{Bool, true, false, ◌&&◌}
use mathlib.Core.List.{List, [], ◌∷◌}
use Prim.Native.Nat.{◌*◌}
use native.Mathlib.Nat.{sub-zero}
use native.Mathlib.Omega.{arith}
use lib.Dec.{leb}
use Rattle.rules.specs.Rules.{Rule, flags_small}
use Rattle.rules.proofs.ColumnRows.{columns_step, columns_end, small_valid}
use Rattle.rules.proofs.columns.valid_in.Goals as goal

-- the first of the rows that are left, and those after it
small-step : (small : Bool) {r : Rule} {left after : List Rule} → left ≡ r ∷ after → ((small && leb r.flags 15) && flags_small after) ≡ (small && flags_small left)
unfolding flags_small
small-step true is = rw is
small-step false is = refl

small-end : (small : Bool) {left : List Rule} → left ≡ [] → small ≡ (small && flags_small left)
unfolding flags_small
small-end true is = rw is
small-end false is = refl

pub loop-row-init : goal.loop-row-init
loop-row-init c = rw sub-zero (small_valid c.args.columns.now (c.args.blocks * 8) (omega arith))

pub loop-row-preserved : goal.loop-row-preserved
loop-row-preserved c =
    let l = c.loop-row in
    let a = c.args in
    small-step l.small (columns_step a.columns.now l.row (a.blocks * 8) (omega arith)) ∙ l.invariant

pub returns : goal.returns
returns c =
    let l = c.loop-row in
    let a = c.args in
    small-end l.small (columns_end a.columns.now l.row (a.blocks * 8) (omega arith)) ∙ l.invariant
