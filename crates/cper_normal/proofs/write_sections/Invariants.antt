-- `write_sections` writes the kept sections, each after the one before.
-- The loop's invariant: writing the sections still to come from here ends as writing all from the start. Assumes nothing.
use mathlib.Core.Path.{◌≡◌}
use Prim.Native.Nat.{◌+◌}
use lib.ListN.{length}
use Rattle.cper_sections.specs.Sections.{kept_of}
use Rattle.cper_sections.specs.Steps.{AllWithin}
use Rattle.cper_normal.specs.Normal.{body_sizes, bodies_at, size_of}
use Rattle.cper_normal.specs.Steps.{pack}
use Rattle.cper_normal.proofs.write_sections.Given as goal

abbrev pub invariant-loop-section : goal.invariant-loop-section
invariant-loop-section l = record {
  within : AllWithin l.cper l.section-iterator;
  same : length l.out ≡ length l.initial.out;
  many : l.row + length l.section-iterator ≡ l.kept;
  long : l.to + body_sizes l.section-iterator ≡ size_of (kept_of l.cper);
  ends : pack l.cper l.out l.row l.to l.section-iterator ≡ pack l.cper l.initial.out 0 (bodies_at (kept_of l.cper)) (kept_of l.cper);
}
