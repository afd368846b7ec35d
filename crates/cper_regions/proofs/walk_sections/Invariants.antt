-- `walk_sections` walks the regions of all kept sections, one after the other.
-- The loop's invariant: the sections still to come, walked from here, end as all do from the start. Assumes nothing.
use mathlib.Core.Path.{◌≡◌}
use mathlib.Core.Bool.{true}
use lib.ListN.{length}
use Rattle.region_walk.specs.Steps.{going}
use Rattle.cper_sections.specs.Sections.{kept_of}
use Rattle.cper_sections.specs.Steps.{AllWithin}
use Rattle.cper_regions.specs.Steps.{sections_run}
use Rattle.cper_regions.proofs.walk_sections.Given as goal

abbrev pub invariant-loop-section : goal.invariant-loop-section
invariant-loop-section l = record {
  within : AllWithin l.cper l.section-iterator;
  same : length l.spans ≡ length l.initial.spans;
  ends : sections_run l.cper l.record_id l.bounds l.section-iterator (going l.spans l.rows l.tries l.whole)
      ≡ sections_run l.cper l.record_id l.bounds (kept_of l.cper) (going l.initial.spans 0 0 true);
}
