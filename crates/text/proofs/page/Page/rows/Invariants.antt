-- `rows` puts the lines of a table's first rows.
-- The lines of the rows passed are put, each in at most `most_line` bytes. Assumes nothing.
use Prim.Native.Nat.{◌*◌}
use Rattle.region_rows.specs.Rows.{spans_in}
use Rattle.text.specs.Dump.{lines}
use Rattle.text.specs.Steps.{Puts, most_line}
use Rattle.text.proofs.page.Page.rows.Given as goal

abbrev pub invariant-loop-i : goal.invariant-loop-i
invariant-loop-i l = Puts l.initial.self (lines (spans_in l.spans l.i)) (l.i * most_line) l.self
