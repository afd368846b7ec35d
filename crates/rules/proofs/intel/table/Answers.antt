-- `table` is the definition's table.
-- Both are computed, number by number. Assumes nothing.
use mathlib.Core.Path.{refl}
use Rattle.rules.specs.Intel.{servers, server_cores, gpus, cores, giving, intel}
use Rattle.rules.proofs.intel.table.Goals as goal

pub returns : goal.returns
unfolding servers server_cores gpus cores giving intel
returns c = refl
