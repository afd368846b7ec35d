-- `column` puts a number and a space.
-- A number of 32 bits has at most ten digits. Assumes nothing.
use native.Mathlib.Omega.{arith}
use Prim.Native.Nat.{ℕ, ◌^◌, ◌≤◌, ◌<◌}
use lib.ListN.{length, length-append}
use Rattle.std.specs.Prelude.{decimal}
use Rattle.std.proofs.lemmas.Fmt.{length-decimal-le}
use Rattle.text.specs.Steps.{most_column}
use Rattle.text.proofs.Pieces.{then, fewer}
use Rattle.text.proofs.page.Page.column.Goals as goal

ten : (n : ℕ) → n < 2 ^ 32 → length (decimal n) ≤ 10
ten n h = length-decimal-le 10 n (omega arith) (omega arith) (omega arith)

pub decimal-requires : goal.decimal-requires
decimal-requires c = omega (arith, ten c.args.n (omega (arith, c.ranges.n)))

pub text-requires : goal.text-requires
text-requires c = omega (arith, ten c.args.n (omega (arith, c.ranges.n)))

pub returns : goal.returns
returns c =
    let few = ten c.args.n (omega (arith, c.ranges.n)) in
    fewer most_column (then c.decimal.ensures c.text.ensures) (simp length-append (omega arith))
