-- `columns` puts the numbers one after the other.
-- The numbers passed are put, each in at most `most_column` bytes. Assumes nothing.
use Prim.Native.Nat.{◌*◌}
use lib.ListN.{take}
use Rattle.std.specs.List.{flat_map}
use Rattle.text.specs.Dump.{column}
use Rattle.text.specs.Steps.{Puts, most_column}
use Rattle.text.proofs.page.Page.columns.Given as goal

abbrev pub invariant-loop-n : goal.invariant-loop-n
invariant-loop-n l = Puts l.initial.self (flat_map column (take l.n-index l.numbers)) (l.n-index * most_column) l.self
