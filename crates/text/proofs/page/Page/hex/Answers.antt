-- `hex` puts the digits that `io::hex` writes.
-- They are those of the definition, at most 8. Assumes nothing.
use mathlib.Core.Path.{ap, ◌∙◌}
use native.Mathlib.Omega.{arith}
use lib.ListN.{length}
use Rattle.text.proofs.Numbers.{hex_is, length-hex}
use Rattle.text.proofs.Pieces.{fewer}
use Rattle.text.proofs.page.Page.hex.Goals as goal

pub text-requires : goal.text-requires
text-requires c =
    let io = c.hex-count.ensures in
    let is = io.digits ∙ hex_is c.args.n c.hex-count.result (omega (arith, c.ranges.n)) io.len in
    omega (arith, ap length is, length-hex c.args.n)

pub returns : goal.returns
returns c =
    let io = c.hex-count.ensures in
    let is = io.digits ∙ hex_is c.args.n c.hex-count.result (omega (arith, c.ranges.n)) io.len in
    fewer 8 (rw is at c.text.ensures) (omega (arith, length-hex c.args.n))
