-- `rows_of` gives the whole rows of a table.
-- What std cuts a slice into are the definition's rows. Assumes nothing.
use Rattle.std.proofs.Common.{◌∙◌, ap, refl, map}
use Rattle.rules.specs.Rules.{row}
use Rattle.rules.proofs.Rows.{chunks_rows}
use Rattle.rules.proofs.rows_of.Goals as goal

pub returns-clause-rows : goal.returns-clause-rows
returns-clause-rows c = ap (map row) c.as_chunks.ensures.front ∙ chunks_rows _ c.args.rules.now refl
