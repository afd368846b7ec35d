-- `next_index` gives the index of the first kept section from an index on.
-- The loop's invariant: from the index on, the same sections are kept as from the first. Assumes nothing.
use mathlib.Core.Path.{sym, ◌∙◌}
use mathlib.Core.Bool.{true, false}
use native.Mathlib.Omega.{arith}
use Rattle.cper_sections.proofs.KeptFrom.{kept_end, kept_next}
use Rattle.cper_sections.proofs.kept.next_index.Goals as goal

pub returns-then-is_kept : goal.returns-then-is_kept
returns-then-is_kept c =
    let a = c.args in
    let kept = sym c.if-is_kept.ensures in
    (omega arith, omega arith, kept, c.loop-index.invariant ∙ kept_next a.cper.now c.loop-index.index a.count true (omega arith) kept)

pub loop-index-preserved : goal.loop-index-preserved
loop-index-preserved c =
    c.loop-index.invariant ∙ kept_next c.args.cper.now c.loop-index.index c.args.count false (omega arith) (sym c.if-is_kept.ensures)

pub returns : goal.returns
returns c = c.loop-index.invariant ∙ kept_end c.args.cper.now c.loop-index.index c.args.count (omega arith)
