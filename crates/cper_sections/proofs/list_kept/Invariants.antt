-- `list_kept` lists the kept sections while rows are free.
-- The loop's invariant: filling the table from here with the sections still to come ends as filling it from its start with all. Assumes nothing.
use mathlib.Core.Path.{◌≡◌}
use Prim.Native.Nat.{◌+◌}
use lib.ListN.{length}
use Rattle.cper_sections.specs.Sections.{kept_of, listed_in}
use Rattle.cper_sections.specs.Steps.{AllWithin}
use Rattle.cper_sections.proofs.Table.{fill}
use Rattle.cper_sections.proofs.list_kept.Given as goal

abbrev pub invariant-loop-section : goal.invariant-loop-section
invariant-loop-section l = record {
  within : AllWithin l.cper l.section-iterator;
  count : l.rows + length l.section-iterator ≡ length (kept_of l.cper);
  same : length l.table ≡ length l.initial.table;
  ends : fill l.table l.rows l.section-iterator ≡ listed_in l.initial.table (kept_of l.cper);
}
