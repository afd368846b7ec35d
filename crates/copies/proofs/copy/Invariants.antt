-- `copy` copies each item to its place.
-- The loop's invariant: as far as it has come, the items are those that are copied. Assumes nothing.
use Rattle.std.proofs.Common.{◌≡◌, take}
use Rattle.copies.proofs.copy.Given as goal

abbrev pub invariant-loop-at : goal.invariant-loop-at
invariant-loop-at g l = take l.at l.to ≡ take l.at l.from
