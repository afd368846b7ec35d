-- `write` puts the table at the start of the output where it fits, and gives the number of its words.
-- By whether it fits: what is copied is the table, and it has 120 numbers. Assumes nothing.
use Rattle.std.proofs.Common.{arith}
use borrow.Author.Tests.{le-leb, lt-leb}
use lib.ListN.{length}
use Rattle.rules.specs.Intel.{intel_out}
use Rattle.rules.proofs.IntelTable.{length-intel}
use Rattle.rules.proofs.intel.write.Goals as goal

pub returns-then-out-lt-WORDS : goal.returns-then-out-lt-WORDS
unfolding intel_out
returns-then-out-lt-WORDS c = rw (length-intel, lt-leb 120 (length c.args.out.now) c.if-out-lt-WORDS.true)

pub returns : goal.returns
unfolding intel_out
returns c = rw (length-intel, le-leb 120 (length c.args.out.now) (omega arith), c.copy.ensures, c.table.ensures)
