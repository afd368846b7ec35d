-- `decimal` puts the digits that `itoa` gives.
-- They are std's, at most 20. Assumes nothing.
use mathlib.Core.Path.{ap, ◌∙◌}
use native.Mathlib.Omega.{arith}
use lib.ListN.{length}
use Rattle.std.proofs.lemmas.Fmt.{length-decimal-le}
use Rattle.text.specs.Steps.{most_digits}
use Rattle.text.proofs.Pieces.{fewer}
use Rattle.text.proofs.page.Page.decimal.Goals as goal

pub text-requires : goal.text-requires
text-requires c = omega (arith, ap length (c.as_bytes.ensures.value ∙ c.format.ensures.text))

pub returns : goal.returns
returns c =
    let is = c.as_bytes.ensures.value ∙ c.format.ensures.text in
    fewer most_digits (rw is at c.text.ensures) (length-decimal-le most_digits c.args.n (omega arith) (omega (arith, c.ranges.n)) (omega (arith, c.ranges.n)))
