-- `last` puts the last line, piece after piece.
-- One after the other. Assumes nothing.
use Rattle.text.specs.Dump.{last_line}
use Rattle.text.proofs.Pieces.{then}
use Rattle.text.proofs.page.Page.last.Goals as goal

pub returns : goal.returns
unfolding last_line
returns c =
    let number = rw c.from.ensures.0 at c.count-3.ensures in
    let counts = then c.count.ensures c.count-2.ensures in
    then (then (then (then counts c.text.ensures) c.whole.ensures) number) c.text-2.ensures
