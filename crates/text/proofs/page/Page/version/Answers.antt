-- `version` puts a version word and a space.
-- One after the other. Assumes nothing.
use Rattle.text.proofs.Pieces.{then}
use Rattle.text.proofs.page.Page.version.Goals as goal

pub returns : goal.returns
returns c = then c.hex.ensures c.text.ensures
