-- `valid` tells whether a table is valid.
-- A look at each row is the definition's. Assumes nothing.
use Rattle.std.proofs.Common.{◌≡◌, ◌∙◌, ap, arith}
use Rattle.std.proofs.lemmas.Bool.Decides.{nat_tests}
use Rattle.rules.specs.Rules.{rules_of, flags_small, valid_of}
use Rattle.rules.proofs.Laws.{each_small}
use Rattle.rules.proofs.valid.Goals as goal

pub returns-then-rows-le-MOST_ROWS : goal.returns-then-rows-le-MOST_ROWS
unfolding valid_of
returns-then-rows-le-MOST_ROWS c =
    let rows = c.rows_of-rows in
    let small : c.all_small.result ≡ flags_small (rules_of c.args.rules.now) = c.all_small.ensures ∙ each_small rows.result.now ∙ ap flags_small rows.ensures.rows in
    grind (arith, nat_tests, small)

pub returns-else-rows-le-MOST_ROWS : goal.returns-else-rows-le-MOST_ROWS
unfolding valid_of
returns-else-rows-le-MOST_ROWS c = grind (arith, nat_tests)
