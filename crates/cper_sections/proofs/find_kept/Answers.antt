-- `find_kept` finds the kept section with a row number.
-- It is the one at that place of the list. Assumes nothing.
use mathlib.Core.Path.{sym}
use Rattle.std.proofs.lemmas.Iterator.Consumers.{nth_from_yields_List, YieldsList-from_first}
use Rattle.cper_sections.specs.Sections.{kept_of, place_in}
use Rattle.cper_sections.proofs.find_kept.Goals as goal

pub returns : goal.returns
unfolding place_in
returns c =
    let at = nth_from_yields_List c.nth.result _ c.args.row c.nth.ensures.ran (YieldsList-from_first (λ x. x) (λ s. s) (kept_of c.args.cper.now) c.new.ensures.all) in
    rw (sym at, c.in-Some.is)

pub returns-in_default : goal.returns-in_default
unfolding place_in
returns-in_default c =
    let at = nth_from_yields_List c.nth.result _ c.args.row c.nth.ensures.ran (YieldsList-from_first (λ x. x) (λ s. s) (kept_of c.args.cper.now) c.new.ensures.all) in
    rw (sym at, c.in_default.is)
