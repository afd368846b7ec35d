-- Intel's table is valid, so that no call refuses it, and it has 120 numbers.
-- Both are computed. Assumes nothing.
use mathlib.Core.Path.{◌≡◌, refl}
use mathlib.Core.Bool.{true}
use lib.ListN.{length}
use Rattle.rules.specs.Rules.{rules_of, flags_small, valid_of}
use Rattle.rules.specs.Intel.{servers, server_cores, gpus, cores, giving, intel}

pub intel_valid : valid_of intel ≡ true
unfolding servers server_cores gpus cores giving intel rules_of flags_small valid_of
intel_valid = refl

pub length-intel : length intel ≡ 120
unfolding servers server_cores gpus cores giving intel
length-intel = refl
