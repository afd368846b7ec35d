-- `put` writes the row of a record that is all in, and walks past it.
-- The row is the record's, and so is what it leaves whole. Assumes nothing.
use Rattle.receiver.proofs.Fronts.{moved_in}
use Rattle.receiver.proofs.front.Front.put.Goals as goal

pub returns : goal.returns
returns c =
    let a = c.args in
    rw (c.put_record-keeps.ensures.spans_after, c.put_record-keeps.ensures.value)
    (moved_in a.self a.left a.declared c.requires.all_in.0 c.requires.all_in.1 a.moved.now a.spans.now)
