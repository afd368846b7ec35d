-- `put_record` writes the row of a record that is all in, and tells whether it leaves the listing whole.
-- The record's bytes being in, its header is there. Assumes nothing.
use mathlib.Core.Path.{refl, sym, ◌∙◌}
use Rattle.header_judge.proofs.Sizes.{size_found, measured}
use Rattle.receiver.proofs.Fronts.{record_in, keeps_in}
use Rattle.receiver.proofs.front.Front.put_record.Goals as goal

pub unwrap-size-requires : goal.unwrap-size-requires
unwrap-size-requires c =
    let a = c.args in
    let all = record_in a.self a.left a.declared c.requires.all_in.0 c.requires.all_in.1 in
    rw (a.self.sized, all.sized) refl

pub summary_of-summary-requires : goal.summary_of-summary-requires
summary_of-summary-requires c =
    let a = c.args in
    let all = record_in a.self a.left a.declared c.requires.all_in.0 c.requires.all_in.1 in
    (all.declares, sym a.self.sized ∙ c.unwrap-size.ensures)

pub span_of-span-requires : goal.span_of-span-requires
span_of-span-requires c =
    let a = c.args in
    let all = record_in a.self a.left a.declared c.requires.all_in.0 c.requires.all_in.1 in
    let found = sym a.self.sized ∙ c.unwrap-size.ensures in
    let bounds = rw found at (measured a.self.bytes.now a.self.word a.self.flags) in
    let size = (size_found a.self.bytes.now a.self.word a.self.flags found).is in
    (c.requires.room.0, rw (c.summary_of-summary.ensures, ← all.declares) c.requires.all_in.2, rw (c.summary_of-summary.ensures, ← size) bounds.most)

pub returns-clause-spans_after : goal.returns-clause-spans_after
returns-clause-spans_after c = rw (c.put.ensures, c.span_of-span.ensures, c.summary_of-summary.ensures)

pub returns-clause-value : goal.returns-clause-value
returns-clause-value c =
    let a = c.args in
    keeps_in a.self a.left a.declared c.requires.all_in.0 c.requires.all_in.1 a.offset c.is_box.result c.unwrap-size.result c.unwrap-size.ensures c.is_box.ensures
