-- `declared_in` gives the bytes that a record declares.
-- Where a size was found, the size fields are there. Assumes nothing.
use mathlib.Core.Path.{sym, ◌∙◌}
use Rattle.header_judge.proofs.Sizes.{size_found}
use Rattle.header_judge.proofs.declared_in.Goals as goal

pub declared_of-requires : goal.declared_of-requires
declared_of-requires c = (size_found c.args.s.now c.args.word c.args.flags (sym c.requires ∙ c.in-Ok.is)).sizes
