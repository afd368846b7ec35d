-- `write_le` of one byte puts its number there: the byte itself.
-- Assumes nothing.
use mathlib.Core.Path.{sym}
use native.Mathlib.Omega.{arith}
use Rattle.le.proofs.Laws.{put_one}
use Rattle.le.proofs.U8LittleEndian.write_le.Goals as goal

pub returns : goal.returns
returns c = sym (put_one c.args.out.now c.args.at c.args.self (omega arith))
