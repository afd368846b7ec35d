-- `columns` puts the numbers one after the other.
-- The numbers passed are put, each in at most `most_column` bytes. Assumes nothing.
use mathlib.Core.Path.{◌≡◌}
use native.Mathlib.Numerals.{add-one}
use native.Mathlib.Omega.{arith}
use lib.ListN.{length, get_or}
use lib.Seq.{take-suc, take_all}
use Rattle.text.specs.Dump.{column}
use Rattle.text.proofs.Pieces.{put_none, put_more}
use Rattle.text.proofs.page.Page.columns.Goals as goal

pub loop-n-init : goal.loop-n-init
loop-n-init c = put_none column _

pub loop-n-preserved : goal.loop-n-preserved
loop-n-preserved c =
    let i = c.loop-n.n-index in
    let next = take-suc c.args.numbers.now i 0 c.loop-n-test.true in
    rw (add-one i, next) (put_more column _ _ _ (get_or c.args.numbers.now i 0) c.loop-n.invariant c.column.ensures)

pub returns : goal.returns
returns c =
    let all : c.loop-n.n-index ≡ length c.args.numbers.now = omega arith in
    let numbers = c.args.numbers.now in
    rw (take_all (length numbers) numbers (omega arith)) at (rw all at c.loop-n.invariant)
