-- `flags` gives the union over the rows that apply.
-- The rows past them, up to the end of a block, add none. Assumes nothing.
use mathlib.Core.Path.{ap, ◌∙◌}
use Prim.Native.Nat.{ℕ, ◌*◌}
use native.Mathlib.Omega.{arith}
use Rattle.rules.specs.Rules.{flags_of}
use Rattle.rules.specs.Columns.{blocks_of, rules_in}
use Rattle.rules.proofs.ColumnRows.{blank_flags}
use Rattle.rules.proofs.columns.flags.Goals as goal

pub returns : goal.returns
returns c =
    let a = c.args in
    c.flags_in.ensures
    ∙ ap (λ (n : ℕ). flags_of (rules_in a.columns.now (n * 8)) a.word) c.blocks_of.ensures
    ∙ blank_flags a.columns.now a.rows (blocks_of a.rows * 8) (omega arith) c.requires.1 a.word
