-- What a try limit leaves: the whole listing where it is no smaller than the number of positions visited, else exactly the first tries and their rows.
-- From what it leaves of any tries. Assumes nothing.
use mathlib.Core.Path.{◌≡◌}
use mathlib.Core.List.{List, ◌++◌}
use Prim.Native.Nat.{ℕ, ◌≤◌, ◌<◌, min}
use lib.ListN.{length, take, drop}
use Rattle.region_rows.specs.declared.Span.{Span}
use Rattle.region_try.specs.Tries.{rows_found, all_tries}
use Rattle.region_rows.specs.Rows.{capacity, laid}
use Rattle.region.specs.Listing.{number_of, top_stands, walked, listed}
use Rattle.region.proofs.Shows.{listed_walked}
use Rattle.region_laws.specs.Positions.{visited}
use Rattle.region_laws.specs.Whole.{Accepted, all_rows, rows_by, RoomForAll, most_of, whole_listing, cut_listing}
use Rattle.region_laws.proofs.Shown.{rows_split}
use Rattle.region_laws.proofs.Tries as of-tries
use Rattle.region_laws.proofs.Tries.{Lists}
use Rattle.region_laws.proofs.Positions.{tries_visited}
use Rattle.region_laws.proofs.Bounds.{visited_five_times}

module _ (rules bytes : List ℕ) (t : List ℕ) (ok : Accepted rules bytes) where
  lists : Lists (top_stands rules bytes) (all_tries rules bytes) (length (visited rules bytes)) (capacity t) t (λ limit. listed rules bytes limit t)
  unfolding walked
  lists = record { made = tries_visited rules bytes; shows = λ limit. listed_walked rules bytes limit t ok.short ok.valid }

  -- ---- for any room

  -- so many of the rows that the first tries find as there is room for
  pub rows_by_limit : (limit : ℕ) → (listed rules bytes limit t).0 ≡ laid (take (capacity t) (rows_by limit rules bytes)) t
  rows_by_limit = of-tries.rows_by_limit lists

  pub row_count_by_limit : (limit : ℕ) → (listed rules bytes limit t).1.rows ≡ length (take (capacity t) (rows_by limit rules bytes))
  row_count_by_limit = of-tries.row_count_by_limit lists

  pub tries_within_limit : (limit : ℕ) → (listed rules bytes limit t).1.tries ≤ limit
  tries_within_limit = of-tries.tries_within_limit lists

  -- ---- with room for every row

  module _ (roomy : RoomForAll rules bytes t) (limit : ℕ) where
    -- a limit no smaller than the number of positions visited
    pub whole_listing_lem : length (visited rules bytes) ≤ limit → listed rules bytes limit t ≡ whole_listing rules bytes t
    whole_listing_lem = of-tries.whole_listing_lem lists roomy limit

    -- a smaller one
    pub cut_listing_lem : limit < length (visited rules bytes) → listed rules bytes limit t ≡ cut_listing limit rules bytes t
    cut_listing_lem = of-tries.cut_listing_lem lists roomy limit

    pub cut_answer : limit < length (visited rules bytes) → number_of (listed rules bytes limit t).1.answer ≡ 7
    cut_answer = of-tries.cut_answer lists roomy limit

    -- the tries reported are the positions visited, unless the limit cuts them
    pub tries_reported : (listed rules bytes limit t).1.tries ≡ min limit (length (visited rules bytes))
    tries_reported = of-tries.tries_reported lists roomy limit

-- five tries and five rows for each byte are always enough
pub five_times_enough : (rules bytes t : List ℕ) → Accepted rules bytes → (limit : ℕ) → most_of (length bytes) ≤ limit → most_of (length bytes) ≤ capacity t
    → listed rules bytes limit t ≡ whole_listing rules bytes t
five_times_enough rules bytes t ok = of-tries.most_enough (lists rules bytes t ok) (most_of (length bytes)) (visited_five_times rules bytes)

-- the rows that a limit leaves begin those of the whole listing
pub rows_begin_whole : (rules bytes : List ℕ) (limit : ℕ) → (rest : List Span) × (all_rows rules bytes ≡ rows_by limit rules bytes ++ rest)
rows_begin_whole rules bytes limit = (rows_found (drop limit (all_tries rules bytes)), rows_split limit (all_tries rules bytes))
