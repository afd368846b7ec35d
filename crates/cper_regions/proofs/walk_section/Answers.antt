-- `walk_section` walks the region of a section that is opened.
-- By what the test tells, and by the region's walk. Assumes nothing.
use mathlib.Core.Path.{◌≡◌, sym, ◌∙◌}
use mathlib.Core.Bool.{true, false}
use mathlib.Core.List.{[]}
use Rattle.cper_regions.specs.Regions.{is_opened}
use Rattle.cper_regions.proofs.Openings.{opened_long, region_part}
use Rattle.cper_regions.proofs.Turns.{walk_none, walk_unopened, walk_region}
use Rattle.cper_regions.proofs.walk_section.Goals as goal

pub returns-then-not-is_opened : goal.returns-then-not-is_opened
returns-then-not-is_opened c =
    let a = c.args in
    let shut : is_opened a.cper.now a.record_id.now a.section ≡ false = sym c.is_opened.ensures ∙ c.if-not-is_opened.true in
    (sym (walk_unopened a.cper.now a.record_id.now a.bounds.now a.section _ [] shut ∙ walk_none a.cper.now a.record_id.now a.bounds.now _))

pub returns : goal.returns
returns c =
    let a = c.args in
    let opened : is_opened a.cper.now a.record_id.now a.section ≡ true = sym c.is_opened.ensures ∙ c.if-not-is_opened.false in
    rw c.counts.ensures
    (walk_region a.cper.now a.record_id.now a.bounds.now a.section _ opened
    (region_part a.cper.now a.section (opened_long a.cper.now a.record_id.now a.section opened)) c.region_walk-region.ensures)
