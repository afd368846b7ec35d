-- `Kept::new` has all kept sections of a CPER to come.
-- The descriptors from the first on are all of them. Assumes nothing.
use native.Mathlib.Omega.{arith}
use Rattle.cper_sections.proofs.KeptFrom.{kept_start, length-kept, kept_within}
use Rattle.cper_sections.proofs.kept.Kept.new.Goals as goal

pub returns : goal.returns
returns c =
    let cper = c.args.cper.now in
    let all = kept_start cper c.section_count.result c.section_count.ensures in
    record { all = all; few = rw all (omega (arith, length-kept cper, c.section_count.ensures, c.section_count.type_inv)); within = rw all (kept_within cper) }
