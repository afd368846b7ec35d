-- With each turn a try that is due is made, or a level of the place is left.
-- The loop's invariant: the tries that are due at the place, run from here, end as the whole does, and the flags of the remembered words are known.
use Rattle.std.proofs.Common.{◌≡◌, ◌+◌, ◌*◌, length}
use Rattle.region_flat.specs.Steps.{Remembers}
use Rattle.region_flat.proofs.Turn.{place, walked, Placed, dues, ahead, entire}
use Rattle.region_flat.proofs.walk.flat_walk.Given as goal

abbrev pub invariant-loop-here : goal.invariant-loop-here
invariant-loop-here l =
    let p = walked l.bytes l.rules l.limit l.room in
    let k = place l.around l.level l.here in
    record {
      knows : Remembers l.rules l.seen;
      placed : Placed p k;
      ends : entire p l.initial.spans ≡ ahead p k l.spans l.rows l.tries l.whole;
    }

abbrev pub decreases-loop-here : goal.decreases-loop-here
decreases-loop-here l =
    2 * length (dues (walked l.bytes l.rules l.limit l.room) (place l.around l.level l.here) l.rows) + l.level
