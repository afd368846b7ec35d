-- `start` gives a receiver that has got no byte, where the rules are a valid table.
-- By its test. Assumes nothing.
use mathlib.Core.Path.{◌≡◌, sym, ◌∙◌}
use mathlib.Core.Bool.{true}
use mathlib.Core.List.{List}
use Prim.Native.Nat.{ℕ, ◌/◌}
use native.Mathlib.Omega.{arith}
use lib.ListN.{length, replicate}
use Rattle.std.specs.Prelude.{Result, Ok}
use Rattle.rules.specs.Rules.{valid_of}
use Rattle.rules.specs.Columns.{columns_of, blocks_of}
use Rattle.rules.proofs.Laws.{valid_rows}
use Rattle.receiver.specs.Calls.{most_kept, in_use, state_of, started, start_out}
use Rattle.receiver.specs.declared.Receiver.{Receiver}
use Rattle.receiver.specs.declared.refusal.Refusal.{Refusal}
use Rattle.receiver.proofs.start.Goals as goal

start_good : (rules columns : List ℕ) (blocks : ℕ) → valid_of rules ≡ true → blocks ≡ blocks_of (length rules / 3) → columns ≡ columns_of rules
    → ◌≡◌ {A = Result Receiver Refusal} (Ok (record { state = state_of 0 0 0 blocks 1 in_use; rules = columns; kept = replicate most_kept 0 })) (start_out rules)
unfolding start_out started
start_good rules columns blocks e b c = rw (b, c, e)

pub returns-then-not-valid : goal.returns-then-not-valid
unfolding start_out
returns-then-not-valid c = let bad = sym c.valid.ensures ∙ c.if-not-valid.true in rw bad

pub blocks_of-blocks-requires : goal.blocks_of-blocks-requires
blocks_of-blocks-requires c = let few = (valid_rows c.args.rules.now (sym c.valid.ensures ∙ c.if-not-valid.false)).1 in omega arith

pub columns_of-requires : goal.columns_of-requires
columns_of-requires c = valid_rows c.args.rules.now (sym c.valid.ensures ∙ c.if-not-valid.false)

pub returns : goal.returns
returns c =
    start_good c.args.rules.now c.columns_of.result c.blocks_of-blocks.result (sym c.valid.ensures ∙ c.if-not-valid.false)
    c.blocks_of-blocks.ensures c.columns_of.ensures
