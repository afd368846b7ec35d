-- The whole listing, and what a limit leaves of it (document 00, demand 3).
use Rattle.std.specs.Prelude.{ℕ, ◌+◌, ◌*◌, ◌/◌, ◌≤◌, min, ◌≡◌, List, true, length, take}
use Rattle.rules.specs.Rules.{valid_of}
use Rattle.region_rows.specs.declared.Span.{Span}
use Rattle.region_try.specs.Tries.{Try, rows_found, all_tries}
use Rattle.region_rows.specs.Rows.{capacity}
use Rattle.answers.specs.Numbers.{most_bytes}
use Rattle.region.specs.Listing.{Shown, showing}
use Rattle.region_try.specs.declared.Cut.TheVariants.{Going, Spent}
use Rattle.region.specs.declared.Listing.{Listing}
use Rattle.region_laws.specs.Positions.{visited}

-- ---- of any tries

-- the rows that the first of them find
abbrev pub rows_first : ℕ → List Try → List Span
rows_first limit tries = rows_found (take limit tries)

-- what is shown where nothing cuts them off, made at so many positions
abbrev pub all_shown : ℕ → List Try → Shown
all_shown positions tries = record { rows = rows_found tries; tries = positions; cut = Going }

-- and where a smaller limit cuts them off
abbrev pub first_shown : ℕ → List Try → Shown
first_shown limit tries = record { rows = rows_first limit tries; tries = limit; cut = Spent }

-- ---- of a region

-- a region within the length limit, and a valid rule table
pub record Accepted (rules bytes : List ℕ) : Type 0 where
  pub short : length bytes ≤ most_bytes
  pub valid : valid_of rules ≡ true

-- every row of the walk
abbrev pub all_rows : List ℕ → List ℕ → List Span
all_rows rules bytes = rows_found (all_tries rules bytes)

-- the rows that the first tries find
abbrev pub rows_by : ℕ → List ℕ → List ℕ → List Span
rows_by limit rules bytes = rows_first limit (all_tries rules bytes)

-- a table with a row for each
abbrev pub RoomForAll : List ℕ → List ℕ → List ℕ → Type 0
RoomForAll rules bytes t = length (all_rows rules bytes) ≤ capacity t

-- the whole listing: every position tried, every row written
abbrev pub whole_listing : List ℕ → List ℕ → List ℕ → List ℕ × Listing
whole_listing rules bytes t = showing rules bytes t (all_shown (length (visited rules bytes)) (all_tries rules bytes))

-- the listing that a smaller limit cuts off
abbrev pub cut_listing : ℕ → List ℕ → List ℕ → List ℕ → List ℕ × Listing
cut_listing limit rules bytes t = showing rules bytes t (first_shown limit (all_tries rules bytes))

-- demand 3's bound on the tries of so many bytes, or of so many fours of bytes
abbrev pub most_of : ℕ → ℕ
most_of units = 5 * units

-- the fours of a length, rounded up
abbrev pub fours : ℕ → ℕ
fours n = (n + 3) / 4

-- a listing of no row: the table is as it was, and one try was made, if there was a byte
pub record Alone (bytes t : List ℕ) (x : List ℕ × Listing) : Type 0 where
  pub table : x.0 ≡ t
  pub rows : x.1.rows ≡ 0
  pub tries : x.1.tries ≡ min 1 (length bytes)
