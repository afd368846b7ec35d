-- `pass` gives the rows of the records that are all in, and how far the walk comes.
-- The loop's invariant: the walk of the rest ends as the whole does, under the same rules, and has room. Assumes nothing.
use mathlib.Core.Path.{◌≡◌}
use lib.ListN.{length}
use Rattle.receiver.specs.Lookups.{rules_of, SameRules}
use Rattle.receiver.specs.Steps.{HasRoom, pass_of}
use Rattle.receiver.proofs.pass.pass.Given as goal

abbrev pub invariant-loop-lookup : goal.invariant-loop-lookup
invariant-loop-lookup l =
    record {
      rules : SameRules l.lookup l.initial.lookup;
      room : HasRoom l.moved (length l.rest) l.spans;
      ends : pass_of (rules_of l.initial.lookup) l.initial.rest l.initial.moved l.initial.spans
          ≡ pass_of (rules_of l.initial.lookup) l.rest l.moved l.spans;
    }

abbrev pub decreases-loop-lookup : goal.decreases-loop-lookup
decreases-loop-lookup l = length l.rest
