-- The levels left fall from the region walk to the Box walk and on to the region walk of a child; in the loop the bytes left fall.
-- The loop's invariant: what is left of the region, run from here, ends as the whole does, and the flags of the last word are known.
use Rattle.std.proofs.Common.{◌≡◌, ◌+◌, ◌-◌, ◌*◌, length}
use Rattle.header_judge.specs.Steps.{Known}
use Rattle.region_walk.proofs.Turn.{placed, rest, entire}
use Rattle.region_walk.proofs.+box_walk_region_walk.Given as goal

abbrev pub decreases-box_walk : goal.decreases-box_walk
decreases-box_walk l = 2 * l.levels

abbrev pub decreases-region_walk : goal.decreases-region_walk
decreases-region_walk l = 2 * l.levels + 1

abbrev pub invariant-region_walk-loop-at : goal.invariant-region_walk-loop-at
invariant-region_walk-loop-at l =
    let p = placed l.bytes l.bounds l.base l.levels l.parent in
    let i = l.initial in
    record {
      flags : Known p.rules l.last l.known;
      ends : entire p i.spans i.rows i.tries i.whole ≡ rest p l.at l.spans l.rows l.tries l.whole;
    }

abbrev pub decreases-region_walk-loop-at : goal.decreases-region_walk-loop-at
decreases-region_walk-loop-at l = length l.bytes - l.at
