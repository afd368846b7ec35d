-- `row` puts a row's line: the columns, the name and a newline.
-- One after the other. Assumes nothing.
use Rattle.text.specs.Dump.{row_line}
use Rattle.text.proofs.Pieces.{then}
use Rattle.text.proofs.page.Page.row.Goals as goal

pub returns : goal.returns
unfolding row_line
returns c =
    let numbers = then c.columns.ensures c.version.ensures in
    let origin = then (then numbers c.column.ensures) c.die.ensures in
    then (then origin c.name.ensures) c.text.ensures
