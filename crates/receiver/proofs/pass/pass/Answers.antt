-- `pass` gives the rows of the records that are all in, and how far the walk comes.
-- No record of the rest is all in, or the walk goes on after one. Assumes nothing.
use mathlib.Core.Path.{sym, ap, ◌∙◌}
use native.Mathlib.Omega.{arith}
use lib.ListN.{length, length-drop}
use borrow.Author.Tests.{eqb-true}
use Rattle.basics.proofs.Parts.{tail_part}
use Rattle.receiver.specs.Lookups.{rules_of}
use Rattle.receiver.specs.Steps.{bytes_in}
use Rattle.receiver.proofs.Passes.{put_moves, pass_waits, pass_end, pass_put}
use Rattle.receiver.proofs.pass.pass.Goals as goal

pub returns-then-declared-eq0 : goal.returns-then-declared-eq0
returns-then-declared-eq0 c =
    let l = c.loop-lookup in
    let read = c.read-front in
    let here = rw (l.invariant.rules.0, l.invariant.rules.1) at read.ensures.0 in
    let none = ap (bytes_in (length l.rest.now)) (sym here) ∙ sym c.bytes_in-declared.ensures.0 ∙ c.if-declared-eq0.true in
    sym (l.invariant.ends ∙ pass_waits (rules_of c.args.lookup) l.rest.now l.moved l.spans none)

pub loop-lookup-preserved : goal.loop-lookup-preserved
loop-lookup-preserved c =
    let l = c.loop-lookup in
    let read = c.read-front in
    let declared = c.bytes_in-declared in
    let put = c.put in
    let room = l.invariant.room in
    let here = rw (l.invariant.rules.0, l.invariant.rules.1) at read.ensures.0 in
    let are = declared.ensures.0 ∙ ap (bytes_in (length l.rest.now)) here in
    let written = rw here at put.ensures in
    let moves = put_moves (length l.rest.now) _ l.moved l.spans declared.result (omega arith) are put.new.spans put.new.moved written in
    record {
      rules = (read.ensures.1.0 ∙ l.invariant.rules.0, read.ensures.1.1 ∙ l.invariant.rules.1);
      room = simp (tail_part, length-drop) (omega arith);
      ends =
          l.invariant.ends
          ∙ pass_put (rules_of c.args.lookup) l.rest.now l.moved l.spans declared.result (omega arith) are put.new.spans put.new.moved written
          ∙ rw tail_part;
    }

pub returns : goal.returns
returns c =
    let l = c.loop-lookup in
    let end = eqb-true (length l.rest.now) 0 (sym c.is_empty.ensures ∙ c.loop-lookup-test.false) in
    sym (l.invariant.ends ∙ pass_end (rules_of c.args.lookup) l.rest.now l.moved l.spans end)
