-- `normalise` writes the normal form, or refuses.
-- By what the checks tell. Assumes nothing.
use mathlib.Core.Path.{sym, ◌∙◌}
use Rattle.std.proofs.lemmas.Result.{err_from_is_err_and}
use Rattle.cper_sections.proofs.Checked.{passes}
use Rattle.cper_normal.specs.Normal.{normalised_of}
use Rattle.cper_normal.proofs.normalise.Goals as goal

pub returns-in_err-check : goal.returns-in_err-check
unfolding normalised_of
returns-in_err-check c =
    let refused = err_from_is_err_and c.from_residual.result c.from_residual.ensures.1 in
    rw (refused.1, refused.2, sym c.check.ensures ∙ c.in_err-check.was)

pub pack_kept-requires : goal.pack_kept-requires
pack_kept-requires c = (passes c.args.cper.now (sym c.check.ensures ∙ c.in_ok-check.was)).header

pub returns : goal.returns
unfolding normalised_of
returns c = rw (sym c.check.ensures ∙ c.in_ok-check.was) c.pack_kept.ensures
