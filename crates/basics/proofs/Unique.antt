-- A contract that is one equation, outcome ≡ definition of what was lent, allows one outcome alone.
-- Two outcomes that it allows are both the definition's. Assumes nothing.
use mathlib.Core.Path.{◌≡◌, sym, ◌∙◌}

-- an outcome: the answer, and every lent buffer at exit
pub unique : {Lent Outcome : Type 0} (definition : Lent → Outcome) (lent : Lent) (first second : Outcome)
    → first ≡ definition lent → second ≡ definition lent → first ≡ second
unique definition lent first second e f = e ∙ sym f
