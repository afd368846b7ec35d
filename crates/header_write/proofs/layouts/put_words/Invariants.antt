-- `put_words` writes the first status words.
-- The loop's invariant: the words so far are written. Assumes nothing.
use mathlib.Core.Path.{◌≡◌}
use Rattle.layout.specs.Runs.{put_run}
use Rattle.header_write.proofs.layouts.put_words.Given as goal

abbrev pub invariant-loop-i : goal.invariant-loop-i
invariant-loop-i l = l.out ≡ put_run 4 l.i l.initial.out 28 l.words
