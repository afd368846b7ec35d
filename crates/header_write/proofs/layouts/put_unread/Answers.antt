-- `put_unread` writes three zero bytes.
-- As a byte and a halfword. Assumes nothing.
use Rattle.le.proofs.Laws.{written_halves}
use Rattle.header_write.proofs.layouts.put_unread.Goals as goal

pub returns : goal.returns
returns c = written_halves 1 2 c.args.out.now 25 0 c.write_le.ensures c.write_le-2.ensures
