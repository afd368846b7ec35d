-- `check` gives the answer of the first check that fails.
-- By the tests in their order. Assumes nothing.
use mathlib.Core.Path.{sym, ◌∙◌}
use borrow.Author.Tests.{lt-ltb, le-ltb}
use Rattle.cper_sections.specs.Answers.{check_of}
use Rattle.cper_sections.proofs.check.Goals as goal

pub returns-then-cper-gt-MOST_BYTES : goal.returns-then-cper-gt-MOST_BYTES
unfolding check_of
returns-then-cper-gt-MOST_BYTES c = rw (lt-ltb _ _ c.if-cper-gt-MOST_BYTES.true)

pub returns-then-not-is_cper : goal.returns-then-not-is_cper
unfolding check_of
returns-then-not-is_cper c = rw (le-ltb _ _ c.if-cper-gt-MOST_BYTES.false, sym c.is_cper.ensures ∙ c.if-not-is_cper.true)

pub returns : goal.returns
unfolding check_of
returns c = rw (le-ltb _ _ c.if-cper-gt-MOST_BYTES.false, sym c.is_cper.ensures ∙ c.if-not-is_cper.false)
