-- The whole listing of a CPER, and what a limit leaves of it (document 00, demand 3; document 02, C-15).
use Rattle.std.specs.Prelude.{ℕ, ◌≤◌, ◌≡◌, List, true, length}
use Rattle.answers.specs.Numbers.{most_bytes}
use Rattle.rules.specs.Rules.{valid_of}
use Rattle.region_rows.specs.declared.Span.{Span}
use Rattle.region_try.specs.Stops.{unknown}
use Rattle.region_try.specs.Tries.{rows_found}
use Rattle.region.specs.Listing.{Shown, tries_showing}
use Rattle.region.specs.declared.Listing.{Listing}
use Rattle.region_laws.specs.Whole.{rows_first, all_shown, first_shown}
use Rattle.cper_header.specs.Record.{is_cper}
use Rattle.cper_regions.specs.Listing.{cper_tries, room}
use Rattle.cper_regions_laws.specs.Positions.{cper_visited}

-- a CPER within the length limit, and a valid rule table
pub record Accepted (rules cper : List ℕ) : Type 0 where
  pub short : length cper ≤ most_bytes
  pub valid : valid_of rules ≡ true
  pub is : is_cper cper ≡ true

-- every row of the walks
abbrev pub all_rows : List ℕ → List ℕ → List ℕ → List Span
all_rows rules cper id = rows_found (cper_tries rules cper id)

-- the rows that the first tries find
abbrev pub rows_by : ℕ → List ℕ → List ℕ → List ℕ → List Span
rows_by limit rules cper id = rows_first limit (cper_tries rules cper id)

-- a table with a row for each
abbrev pub RoomForAll : List ℕ → List ℕ → List ℕ → List ℕ → Type 0
RoomForAll rules cper id t = length (all_rows rules cper id) ≤ room t

-- the table and the listing that show so much of the tries
abbrev pub showing : List ℕ → List ℕ → List ℕ → List ℕ → Shown → List ℕ × Listing
showing rules cper id t s = tries_showing unknown (cper_tries rules cper id) t s

-- the whole listing: every position tried, every row written
abbrev pub whole_listing : List ℕ → List ℕ → List ℕ → List ℕ → List ℕ × Listing
whole_listing rules cper id t = showing rules cper id t (all_shown (length (cper_visited rules cper id)) (cper_tries rules cper id))

-- the listing that a smaller limit cuts off
abbrev pub cut_listing : ℕ → List ℕ → List ℕ → List ℕ → List ℕ → List ℕ × Listing
cut_listing limit rules cper id t = showing rules cper id t (first_shown limit (cper_tries rules cper id))
