-- `write_le` writes two halves, and a number written is its halves written.
-- Assumes nothing.
use Rattle.le.proofs.Laws.{written_halves}
use Rattle.le.proofs.U64LittleEndian.write_le.Goals as goal

pub returns : goal.returns
returns c =
    let a = c.args in
    written_halves 4 4 a.out.now a.at a.self c.write_le.ensures c.write_le-2.ensures
