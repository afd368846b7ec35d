-- `next_index` gives the index of the first kept section from an index on.
-- The loop's invariant: from the index on, the same sections are kept as from the first. Assumes nothing.
use mathlib.Core.Path.{◌≡◌}
use Rattle.cper_sections.specs.Steps.{kept_in}
use Rattle.cper_sections.proofs.kept.next_index.Given as goal

abbrev pub invariant-loop-index : goal.invariant-loop-index
invariant-loop-index l = kept_in l.cper l.from l.count ≡ kept_in l.cper l.index l.count
