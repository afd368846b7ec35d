-- `summary_of` gives what a header says of its record.
-- The size that was found is that of the layout. Assumes nothing.
use Rattle.header_judge.proofs.Sizes.{size_found, complete}
use Rattle.header_judge.proofs.summary_of.Goals as goal

pub origin_of-origin-requires : goal.origin_of-origin-requires
origin_of-origin-requires c = complete c.args.s.now c.args.word c.args.flags c.requires.1

pub returns : goal.returns
returns c =
    let a = c.args in
    rw (c.requires.0, (size_found a.s.now a.word a.flags c.requires.1).is, c.origin_of-origin.ensures)
