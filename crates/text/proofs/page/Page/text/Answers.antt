-- `text` puts its text through the part of the buffer that starts where the page ends.
-- What `copy_from_slice` leaves of the part is the text. Assumes nothing.
use mathlib.Core.Path.{refl, ap, ◌∙◌}
use native.Mathlib.Omega.{arith}
use lib.ListN.{length}
use lib.Seq.{length-sets}
use Rattle.text.proofs.Pieces.{through}
use Rattle.text.proofs.page.Page.text.Goals as goal

pub returns : goal.returns
returns c =
    let page = c.args.self.now in
    let text = c.args.text.now in
    let bytes = through page.out.now text c.copy_from_slice.new.self page.end (omega arith) c.copy_from_slice.ensures.after in
    record {
      bytes = bytes;
      ends = refl;
      few = omega arith;
      length_kept = ap length bytes ∙ length-sets page.out.now page.end text;
      same_reference = refl;
    }
