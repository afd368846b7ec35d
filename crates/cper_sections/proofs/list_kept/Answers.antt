-- `list_kept` lists the kept sections while rows are free.
-- The loop's invariant: filling the table from here with the sections still to come ends as filling it from its start with all. Assumes nothing.
use mathlib.Core.Path.{refl, subst, sym, ap, ◌∙◌}
use native.Mathlib.Nat.{zero-add}
use native.Mathlib.Omega.{arith}
use lib.ListN.{length}
use Rattle.cper_sections.specs.Sections.{kept_of}
use Rattle.cper_sections.specs.Steps.{AllWithin}
use Rattle.cper_sections.proofs.KeptFrom.{kept_within}
use Rattle.cper_sections.proofs.Table.{fill, fill_row, fill_full, fill_listed}
use Rattle.cper_sections.proofs.list_kept.Goals as goal

pub loop-section-init : goal.loop-section-init
loop-section-init c =
    let all = c.into_iter-section-iterator.ensures.into_iter_gives ∙ c.new-section-items.ensures.all in
    record {
      within = rw all (kept_within c.args.cper.now);
      count = zero-add _ ∙ ap length all;
      same = refl;
      ends = ap (fill c.args.table.now 0) all ∙ fill_listed c.args.table.now (kept_of c.args.cper.now);
    }

pub returns-then-room-rows : goal.returns-then-room-rows
returns-then-room-rows c =
    let l = c.loop-section in
    fill_full l.table l.rows _ _ (omega arith) ∙ ap (fill l.table l.rows) (sym c.in-Some.ensures.steps) ∙ l.invariant.ends

pub loop-section-preserved : goal.loop-section-preserved
loop-section-preserved c =
    let l = c.loop-section in
    let first = c.in-Some.ensures.steps in
    let many = ap length first in
    record {
      within = (subst (AllWithin c.args.cper.now) first l.invariant.within).1;
      count = omega arith;
      same = c.put_row.auto.table ∙ l.invariant.same;
      ends = fill_row l.table l.rows _ _ (omega arith) c.put_row.ensures ∙ ap (fill l.table l.rows) (sym first) ∙ l.invariant.ends;
    }

pub returns : goal.returns
unfolding fill
returns c =
    let l = c.loop-section in
    ap (fill l.table l.rows) (sym c.in-None.ensures.steps.0) ∙ l.invariant.ends
