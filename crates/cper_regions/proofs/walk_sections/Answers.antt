-- `walk_sections` walks the regions of all kept sections, one after the other.
-- The loop's invariant: the sections still to come, walked from here, end as all do from the start. Assumes nothing.
use mathlib.Core.Path.{◌≡◌, subst, sym, ap, ◌∙◌}
use mathlib.Core.List.{List}
use Prim.Native.Nat.{ℕ}
use Rattle.std.proofs.Common.{rules}
use Rattle.region_try.specs.Steps.{Walk}
use Rattle.region_walk.specs.declared.bounds.Bounds.{Bounds}
use Rattle.cper_sections.specs.Steps.{AllWithin}
use Rattle.cper_sections.specs.declared.kept.Section.{Section}
use Rattle.cper_regions.specs.Steps.{sections_run}
use Rattle.cper_regions.proofs.Turns.{walk_none, walk_next, walk_ends}
use Rattle.cper_regions.proofs.walk_sections.Goals as goal

-- what sections still to come end as, once these are known to be others
ends_in : (cper id : List ℕ) (b : Bounds) {ks js : List Section} (m : Walk) {n : Walk} → ks ≡ js
    → sections_run cper id b ks m ≡ n → sections_run cper id b js m ≡ n
ends_in cper id b m e f = ap (λ (ks : List Section). sections_run cper id b ks m) (sym e) ∙ f

pub returns-then-ne : goal.returns-then-ne
returns-then-ne c =
    let a = c.args in
    walk_ends a.cper.now a.record_id.now a.bounds.now _ _ _ c.walk_section-walked.ensures (λ e. search rules)
    ∙ ends_in a.cper.now a.record_id.now a.bounds.now _ c.in-Some.ensures.steps c.loop-section.invariant.ends

pub loop-section-preserved : goal.loop-section-preserved
loop-section-preserved c =
    let a = c.args in
    let l = c.loop-section.invariant in
    let first = c.in-Some.ensures.steps in
    record {
      within = (subst (AllWithin a.cper.now) first l.within).1;
      same = c.walk_section-walked.auto.spans ∙ l.same;
      ends = walk_next a.cper.now a.record_id.now a.bounds.now _ _ _ c.walk_section-walked.ensures (search rules)
          ∙ ends_in a.cper.now a.record_id.now a.bounds.now _ first l.ends;
    }

pub returns : goal.returns
returns c =
    let a = c.args in
    sym (walk_none a.cper.now a.record_id.now a.bounds.now _)
    ∙ ends_in a.cper.now a.record_id.now a.bounds.now _ c.in-None.ensures.steps.0 c.loop-section.invariant.ends
