-- What the listing of a CPER can answer, and when it answers 5 (document 02, C-15).
use Rattle.std.specs.Prelude.{ℕ, ◌≤◌, ◌≡◌, List, [], ◌∷◌, Bool, false, ◌||◌, eqb, length}
use Rattle.answers.specs.Numbers.{done, too_long, bad_rules, empty, spans_full, tries_spent, not_cper}
use Rattle.region_try.specs.declared.stop.Stop.TheVariants.{Untold}
use Rattle.region.specs.declared.Answer.TheVariants.{Empty}
use Rattle.region.specs.declared.Listing.{Listing}
use Rattle.cper_regions_laws.specs.Positions.{cper_visited}
use Rattle.cper_regions_laws.specs.Whole.{Accepted, all_rows}

-- is a number among some?
unfoldable pub among : List ℕ → ℕ → Bool
among [] n = false
among (x ∷ xs) n = eqb n x || among xs n

-- the numbers of its answers; 3 and 4 are those of one region
abbrev pub answers_told : List ℕ
answers_told = done ∷ too_long ∷ bad_rules ∷ empty ∷ spans_full ∷ tries_spent ∷ not_cper ∷ []

-- the input is accepted, the limit lets every position be tried, and no region holds a record
pub record NoneHolds (rules cper id : List ℕ) (limit : ℕ) : Type 0 where
  pub accepted : Accepted rules cper
  pub enough : length (cper_visited rules cper id) ≤ limit
  pub rowless : all_rows rules cper id ≡ []

-- the listing then: the table as it was, no row, all tries made
abbrev pub none_listing : List ℕ → List ℕ → List ℕ → List ℕ → List ℕ × Listing
none_listing rules cper id t = (t, record { answer = Empty; rows = 0; tries = length (cper_visited rules cper id); whole = false; stop = Untold })
