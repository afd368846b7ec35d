-- `text` gives what stands before the first zero.
-- The place that `position` gives is where the definition cuts. Assumes nothing.
use Rattle.std.proofs.Common.{rules, tests, eqb, arith}
use Rattle.std.proofs.lemmas.Bool.Decides.{nat_tests}
use Rattle.std.proofs.lemmas.Grind.{common_steps}
use Rattle.std.proofs.lemmas.Iterator.{YieldsList-from_slice}
use Rattle.std.proofs.lemmas.Iterator.Search.{position_from_yields_List}
use Rattle.names.proofs.table.text.Goals as goal

pub returns : goal.returns
returns c =
    let bytes = c.args.padded.now in
    let e = position_from_yields_List (λ byte. eqb byte 0) _ _ c.position.result c.position.ensures.ran (YieldsList-from_slice bytes cc) (λ x b q k. search (rules, tests)) in
    λ is_text. grind (arith, common_steps, nat_tests)
