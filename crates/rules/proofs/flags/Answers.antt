-- `flags` gives the union over the rows that apply.
-- The fold over the rows is that over the definition's. Assumes nothing.
use Rattle.std.proofs.Common.{rules, ◌≡◌, ◌∙◌, ap, fold}
use Rattle.rules.specs.Rules.{row, with_rules, flags_of}
use Rattle.rules.proofs.Laws.{looked_at, fold_looked}
use Rattle.rules.proofs.flags.Goals as goal

pub returns : goal.returns
unfolding flags_of
returns c =
    let word = c.args.word in
    let rows = c.rows_of.result.now in
    let folded : c.fold.result ≡ fold (λ all numbers. looked_at word all (row numbers)) 0 rows = search rules in
    folded ∙ fold_looked word 0 rows ∙ ap (with_rules word 0) c.rows_of.ensures.rows
