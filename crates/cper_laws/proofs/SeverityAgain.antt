-- A severity is read as it was written.
-- By cases. Assumes nothing.
use mathlib.Core.Path.{◌≡◌, refl}
use Prim.Native.Nat.{◌^◌, ◌<◌}
use native.Mathlib.Omega.{arith}
use Rattle.cper_fields.specs.Fields.{severity_of, severity_number}
use Rattle.cper_fields.specs.declared.Severity.{Severity}
use Rattle.cper_fields.specs.declared.Severity.TheVariants.{Recoverable, Fatal, Corrected, Informational}

pub severity_again : (s : Severity) → severity_of (severity_number s) ≡ s
severity_again Recoverable = refl
severity_again Fatal = refl
severity_again Corrected = refl
severity_again Informational = refl

pub severity_small : (s : Severity) → severity_number s < 256 ^ 4
severity_small Recoverable = omega arith
severity_small Fatal = omega arith
severity_small Corrected = omega arith
severity_small Informational = omega arith
