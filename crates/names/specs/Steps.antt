-- What the inner contracts cite.
use Rattle.std.specs.Prelude.{ℕ, List, eqb}
use Rattle.std.specs.List.{before_first}
use Rattle.names.specs.Names.{padded}

-- an entry as the library's table holds it: its name padded
abbrev pub held : ℕ × List ℕ → ℕ × List ℕ
held (code, name) = (code, padded name)

-- the bytes before the first zero
abbrev pub before_zero : List ℕ → List ℕ
before_zero = before_first (λ byte. eqb byte 0)
