-- `keep` keeps the first bytes from a place on.
-- The part that is copied is what the definition takes. Assumes nothing.
use Rattle.receiver.proofs.Kept.{copied}
use Rattle.receiver.proofs.piece.keep.Goals as goal

pub returns : goal.returns
returns c =
    let a = c.args in
    copied a.s.now a.kept.now c.copy.new.to a.at c.min-len.result c.requires.0 c.min-len.ensures c.copy.ensures
