-- `read_le` reads two halves, and a number is its halves.
-- Assumes nothing.
use Rattle.le.proofs.Laws.{read_halves}
use Rattle.le.proofs.U32LittleEndian.read_le.Goals as goal

pub returns : goal.returns
returns c =
    let a = c.args in
    read_halves 2 2 a.s.now a.at c.read_le-low.ensures c.read_le-high.ensures
