-- `main` lends the whole of its buffer.
-- An array of zeros has its length by a law: counting a million elements is too deep for antt. Assumes nothing.
use mathlib.Core.Path.{sym}
use Prim.Native.Nat.{ℕ}
use lib.ListN.{length-replicate}
use Rattle.dump_cper.proofs.main.Goals as goal

pub slice_bounds-dump_input-end : goal.slice_bounds-dump_input-end
slice_bounds-dump_input-end c = sym (length-replicate {A = ℕ} 1048577 0)
