-- `judge_with` gives what the header is, where its word and flags are known.
-- A size that is found is within its bounds. Assumes nothing.
use mathlib.Core.Path.{sym}
use Rattle.header_judge.proofs.Sizes.{size_found}
use Rattle.header_judge.proofs.judge_with.Goals as goal

pub returns-clause-head_bounds : goal.returns-clause-head_bounds
returns-clause-head_bounds c =
    let a = c.args in
    let size = c.in_ok-size.ensures in
    let found = size_found a.s.now a.word a.flags (sym size.value) in
    rw (c.summary_of.ensures, ← c.declared_of-declared.ensures.0, ← found.is)
    (c.declared_of-declared.ensures.1, size.measured.least, size.measured.most)
