-- `name_of` gives the name of a record type.
-- The first entry of the type that `find` gives is the one that `lookup` comes to. Assumes nothing.
use Rattle.std.proofs.Common.{rules, tests, eqb, arith, map}
use Rattle.std.proofs.lemmas.Iterator.{YieldsList-from_slice}
use Rattle.std.proofs.lemmas.Iterator.Search.{find_from_yields_List}
use Rattle.std.proofs.lemmas.Grind.{common_steps}
use Rattle.names.specs.Names.{named}
use Rattle.names.specs.Steps.{held}
use Rattle.names.proofs.Laws.{name_found, is_text}
use Rattle.names.proofs.name_of.Goals as goal

pub returns : goal.returns
returns c =
    let t = c.args.record_type in
    let first = find_from_yields_List (λ entry. eqb t entry.0) _ _ c.find.result c.find.ensures.ran (YieldsList-from_slice (map held named) cc) (λ x b q k. search (rules, tests)) in
    let name = name_found t in
    let text = is_text t in
    grind (arith, common_steps)
