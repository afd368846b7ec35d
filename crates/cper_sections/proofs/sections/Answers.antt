-- `sections` lists the kept sections, or refuses.
-- By what the checks tell. Assumes nothing.
use mathlib.Core.Path.{sym, ◌∙◌}
use Rattle.std.proofs.lemmas.Result.{err_from_is_err_and}
use Rattle.cper_sections.specs.Sections.{sections_of}
use Rattle.cper_sections.proofs.Checked.{passes}
use Rattle.cper_sections.proofs.sections.Goals as goal

pub returns-in_err-check : goal.returns-in_err-check
unfolding sections_of
returns-in_err-check c =
    let refused = err_from_is_err_and c.from_residual.result c.from_residual.ensures.1 in
    rw (refused.1, refused.2, sym c.check.ensures ∙ c.in_err-check.was)

pub list_kept-requires : goal.list_kept-requires
list_kept-requires c =
    let p = passes c.args.cper.now (sym c.check.ensures ∙ c.in_ok-check.was) in
    (p.header, p.short)

pub returns : goal.returns
unfolding sections_of
returns c = rw (sym c.check.ensures ∙ c.in_ok-check.was) c.list_kept.ensures
