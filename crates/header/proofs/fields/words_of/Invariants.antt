-- `words_of` gives so many status words, and zeros.
-- The loop's invariant: the words so far, and zeros. Assumes nothing.
use mathlib.Core.Path.{◌≡◌}
use Rattle.layout.specs.Fields.{read_all}
use Rattle.layout.specs.Runs.{cells}
use Rattle.header.specs.Layouts.{padded}
use Rattle.header.proofs.fields.words_of.Given as goal

abbrev pub invariant-loop-i : goal.invariant-loop-i
invariant-loop-i l = l.words ≡ padded (read_all (cells 28 4 l.i) l.s)
