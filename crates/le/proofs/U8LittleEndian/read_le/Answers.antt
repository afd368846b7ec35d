-- `read_le` of one byte gives its number: the byte itself.
-- Assumes nothing.
use mathlib.Core.Path.{sym}
use Rattle.le.proofs.Laws.{le_one}
use Rattle.le.proofs.U8LittleEndian.read_le.Goals as goal

pub returns : goal.returns
returns c = sym (le_one c.args.s.now c.args.at)
