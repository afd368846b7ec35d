-- `measure` counts the kept sections and adds up their bodies' lengths.
-- The loop's invariant: both, with those of the sections still to come, are those of all. Assumes nothing.
use mathlib.Core.Path.{◌≡◌}
use Prim.Native.Nat.{◌+◌, ◌*◌, ◌≤◌}
use lib.ListN.{length}
use Rattle.cper_sections.specs.Sections.{kept_of}
use Rattle.cper_normal.specs.Normal.{body_sizes}
use Rattle.cper_normal.proofs.measure.Given as goal

abbrev pub invariant-loop-section : goal.invariant-loop-section
invariant-loop-section l = record {
  small : l.bodies ≤ l.kept * 4294967296;
  many : l.kept + length l.section-iterator ≡ length (kept_of l.cper);
  long : l.bodies + body_sizes l.section-iterator ≡ body_sizes (kept_of l.cper);
}
