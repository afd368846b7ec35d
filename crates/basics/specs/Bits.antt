-- The bits of a number.
use Rattle.std.specs.Prelude.{ℕ, ◌/◌, ◌%◌, Bool, eqb}

-- does a number have a bit?
abbrev pub has : ℕ → ℕ → Bool
has bits bit = eqb (bits / bit % 2) 1
