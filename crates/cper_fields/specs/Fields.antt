-- What the record header and the section descriptor share: severities, and fields of bytes that may be absent.
use Rattle.std.specs.Prelude.{ℕ, ◌+◌, List, ◌++◌, Bool, cond, eqb, take, drop, replicate, Option, unwrap_or}
use Rattle.cper_fields.specs.declared.Severity.{Severity}
use Rattle.cper_fields.specs.declared.Severity.TheVariants.{Recoverable, Fatal, Corrected, Informational}

-- a number where it is present, else 0
abbrev pub number_if : Bool → ℕ → ℕ
number_if held number = cond held number 0

-- `n` bytes from `at` on
abbrev pub part : List ℕ → ℕ → ℕ → List ℕ
part bs at n = take n (drop at bs)

-- the bytes with `n` others in the place of those from `at` on
abbrev pub over : List ℕ → ℕ → ℕ → List ℕ → List ℕ
over bs at n field = take at bs ++ field ++ drop (at + n) bs

abbrev pub zeros : ℕ → List ℕ
zeros n = replicate n 0

-- the `n` bytes of a field, zero where it is absent
abbrev pub present : ℕ → Option (List ℕ) → List ℕ
present n field = unwrap_or field (zeros n)

-- a number above 3 is taken for 3
abbrev pub severity_of : ℕ → Severity
severity_of n = cond (eqb n 0) Recoverable (cond (eqb n 1) Fatal (cond (eqb n 2) Corrected Informational))

abbrev pub severity_number : Severity → ℕ
severity_number Recoverable = 0
severity_number Fatal = 1
severity_number Corrected = 2
severity_number Informational = 3
