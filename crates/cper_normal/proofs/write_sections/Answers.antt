-- `write_sections` writes the kept sections, each after the one before.
-- The loop's invariant: writing the sections still to come from here ends as writing all from the start. Assumes nothing.
use mathlib.Core.Path.{subst, sym, ap, ◌∙◌}
use native.Mathlib.Omega.{arith}
use lib.ListN.{length}
use Rattle.cper_sections.specs.Steps.{AllWithin}
use Rattle.cper_normal.specs.Normal.{body_sizes}
use Rattle.cper_normal.specs.Steps.{pack}
use Rattle.cper_normal.proofs.Packed.{pack_section}
use Rattle.cper_normal.proofs.write_sections.Goals as goal

pub write_section-requires : goal.write_section-requires
unfolding body_sizes
write_section-requires c =
    let first = c.in-Some.ensures.steps in
    let room = c.requires in
    let many = ap length first in
    let long = ap body_sizes first in
    record {
      section = (subst (AllWithin c.args.cper.now) first c.loop-section.invariant.within).0;
      before = omega arith;
      room = omega arith;
      small = omega arith;
    }

pub loop-section-preserved : goal.loop-section-preserved
unfolding body_sizes
loop-section-preserved c =
    let l = c.loop-section in
    let first = c.in-Some.ensures.steps in
    let many = ap length first in
    let long = ap body_sizes first in
    record {
      within = (subst (AllWithin c.args.cper.now) first l.invariant.within).1;
      same = c.write_section.auto.out ∙ l.invariant.same;
      many = omega arith;
      long = omega arith;
      ends = pack_section _ l.out l.row l.to _ _ c.write_section.ensures ∙ ap (pack c.args.cper.now l.out l.row l.to) (sym first) ∙ l.invariant.ends;
    }

pub returns : goal.returns
unfolding pack
returns c =
    let l = c.loop-section in
    ap (pack c.args.cper.now l.out l.row l.to) (sym c.in-None.ensures.steps.0) ∙ l.invariant.ends
