-- `shared_mask` gives the bits that all rows look at.
-- The fold over the rows is that over the definition's. Assumes nothing.
use Rattle.std.proofs.Common.{rules, ◌≡◌, ◌∙◌, ap, fold, bit_and}
use Rattle.rules.specs.Rules.{row}
use Rattle.sieve.specs.Sieve.{shared_by}
use Rattle.sieve.proofs.Free.{fold_shared}
use Rattle.sieve.proofs.shared_mask.Goals as goal

pub returns : goal.returns
returns c =
    let rows = c.rows_of.result.now in
    let folded : c.fold.result ≡ fold (λ shared numbers. bit_and shared (row numbers).mask) 4294967295 rows = search rules in
    folded ∙ fold_shared 4294967295 rows ∙ ap (shared_by 4294967295) c.rows_of.ensures.rows
