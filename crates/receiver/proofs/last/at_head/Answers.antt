-- `at_head` gives the listing where the walk stands at a header.
-- By the header's cases; a record that is not all in lacks bytes or declares none. Assumes nothing.
use mathlib.Core.Path.{sym}
use Rattle.receiver.proofs.Ends.{end_none, end_empty, end_short}
use Rattle.receiver.proofs.last.at_head.Goals as goal

pub returns-then-summary-eq0 : goal.returns-then-summary-eq0
returns-then-summary-eq0 c =
    let a = c.args in
    rw c.at_stop-then-summary-eq0.ensures (sym (end_empty a.from.offset a.held a.from.rows a.from.whole a.spans.now c.in-Ok.summary c.in-Ok.is c.if-summary-eq0.true))

pub returns-in-Err : goal.returns-in-Err
returns-in-Err c =
    let a = c.args in
    rw (c.at_stop.ensures, c.stop_at-stop.ensures.0, c.stop_at-stop.ensures.1)
    (sym (end_none a.from.offset a.held a.from.rows a.from.whole a.spans.now c.in-Err.is))

pub returns-else-summary-eq0 : goal.returns-else-summary-eq0
returns-else-summary-eq0 c =
    let a = c.args in
    rw (c.listing_at.ensures, c.put.ensures, c.span_of-span.ensures)
    (sym (end_short a.from.offset a.held a.from.rows a.from.whole a.spans.now c.in-Ok.summary c.in-Ok.is c.if-summary-eq0.false c.requires.1))
