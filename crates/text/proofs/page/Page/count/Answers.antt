-- `count` puts a text and a number.
-- One after the other; a number of 64 bits has at most `most_digits` digits. Assumes nothing.
use native.Mathlib.Omega.{arith}
use Rattle.std.proofs.lemmas.Fmt.{length-decimal-le}
use Rattle.text.proofs.Pieces.{then}
use Rattle.text.proofs.page.Page.count.Goals as goal

pub decimal-requires : goal.decimal-requires
decimal-requires c = omega (arith, length-decimal-le 20 c.args.n (omega arith) (omega (arith, c.ranges.n)) (omega (arith, c.ranges.n)))

pub returns : goal.returns
returns c = then c.text.ensures c.decimal.ensures
