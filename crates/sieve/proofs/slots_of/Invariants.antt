-- `slots_of` gives the slots of the table.
-- The loop's invariant: the slots so far, without those of the rows still to come, are the table's. Assumes nothing.
use Rattle.std.proofs.Common.{◌≡◌, map, drop}
use Rattle.rules.specs.Rules.{row}
use Rattle.sieve.specs.Sieve.{taken_by, slots_of}
use Rattle.sieve.proofs.slots_of.Given as goal

abbrev pub invariant-loop-wanted : goal.invariant-loop-wanted
invariant-loop-wanted l = taken_by l.mask l.slots (map row (drop l.wanted-index l.wanted-items)) ≡ slots_of l.mask l.rules
