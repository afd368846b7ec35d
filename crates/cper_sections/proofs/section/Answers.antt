-- `section` returns the part of the input that `section_at` tells.
-- The place lies in the input. Assumes nothing.
use mathlib.Core.Path.{subst, sym, ◌∙◌}
use native.Mathlib.Omega.{arith}
use Rattle.cper_sections.proofs.KeptFrom.{PlaceWithin, place_within}
use Rattle.cper_sections.proofs.section.Goals as goal

pub slice_bounds-result-end-2 : goal.slice_bounds-result-end-2
slice_bounds-result-end-2 c =
    let a = c.args in
    let inside = subst (PlaceWithin a.cper.now) (sym c.section_at.ensures ∙ c.in-Ok.is) (place_within a.cper.now a.row) in
    omega arith
