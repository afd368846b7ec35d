-- `rows` puts the lines of a table's first rows.
-- The lines of the rows passed are put, each in at most `most_line` bytes. Assumes nothing.
use native.Mathlib.Numerals.{add-one}
use Rattle.region_rows.specs.Rows.{span_at, spans_in}
use Rattle.text.specs.Dump.{row_line}
use Rattle.text.proofs.Pieces.{put_none, put_more}
use Rattle.text.proofs.page.Page.rows.Goals as goal

pub loop-i-init : goal.loop-i-init
unfolding spans_in
loop-i-init c = put_none row_line _

pub loop-i-preserved : goal.loop-i-preserved
unfolding spans_in
loop-i-preserved c =
    let i = c.loop-i.i in
    let t = c.args.spans.now in
    rw add-one (put_more row_line _ _ (spans_in t i) (span_at t i) c.loop-i.invariant (rw c.get.ensures at c.row.ensures))
