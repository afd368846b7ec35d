-- `slots_of` gives the slots of the table.
-- The loop's invariant: the slots so far, without those of the rows still to come, are the table's. Assumes nothing.
use Rattle.std.proofs.Common.{List, ℕ, Bool, map, arith, sym, ◌∙◌}
use Rattle.std.proofs.lemmas.List.{at_drop_more, at_drop_all}
use Rattle.rules.specs.Rules.{row}
use Rattle.sieve.specs.Sieve.{taken_by}
use Rattle.sieve.proofs.slots_of.Goals as goal

-- without the slots of some rows, too
abbrev without : ℕ → List Bool → List (List ℕ) → List Bool
without mask slots rows = taken_by mask slots (map row rows)

pub loop-wanted-preserved : goal.loop-wanted-preserved
unfolding taken_by
loop-wanted-preserved c =
    let l = c.loop-wanted in
    rw c.slot_of.ensures.0
    (sym (at_drop_more (without c.args.mask l.slots) c.rows_of-wanted-items.result.now l.wanted-index _ (omega arith)) ∙ l.invariant)

pub returns : goal.returns
unfolding taken_by
returns c =
    let l = c.loop-wanted in
    sym (at_drop_all (without c.args.mask l.slots) c.rows_of-wanted-items.result.now l.wanted-index (omega arith)) ∙ l.invariant
