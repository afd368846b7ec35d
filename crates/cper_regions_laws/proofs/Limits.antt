-- What a try limit leaves: the whole listing where it is no smaller than the number of positions visited, else exactly the first tries and their rows.
-- From what it leaves of any tries. Assumes nothing.
use mathlib.Core.Path.{◌≡◌}
use mathlib.Core.List.{List, ◌++◌}
use Prim.Native.Nat.{ℕ, ◌≤◌, ◌<◌, min}
use lib.ListN.{length, take, drop}
use Rattle.region_rows.specs.declared.Span.{Span}
use Rattle.region_rows.specs.Rows.{laid}
use Rattle.region_try.specs.Stops.{unknown}
use Rattle.region_try.specs.Tries.{rows_found}
use Rattle.region.specs.Listing.{number_of}
use Rattle.region_laws.specs.Whole.{most_of}
use Rattle.region_laws.proofs.Shown.{rows_split}
use Rattle.region_laws.proofs.Tries as of_tries
use Rattle.region_laws.proofs.Tries.{Lists}
use Rattle.cper_regions.specs.Regions.{regions_of}
use Rattle.cper_regions.specs.Listing.{cper_tries, room, cper_listed}
use Rattle.cper_regions_laws.specs.Positions.{cper_visited, total}
use Rattle.cper_regions_laws.specs.Whole.{Accepted, all_rows, rows_by, RoomForAll, whole_listing, cut_listing}
use Rattle.cper_regions_laws.proofs.Positions.{tries_visited}
use Rattle.cper_regions_laws.proofs.Refusals.{accepted_shown}
use Rattle.cper_regions_laws.proofs.Bounds.{visited_five_times_total}

module _ (rules cper id t : List ℕ) (ok : Accepted rules cper) where
  lists : Lists unknown (cper_tries rules cper id) (length (cper_visited rules cper id)) (room t) t (λ limit. cper_listed rules cper id limit t)
  lists = record { made = tries_visited rules cper id; shows = λ limit. accepted_shown rules cper id limit t ok }

  -- ---- for any room

  -- so many of the rows that the first tries find as there is room for
  pub rows_by_limit : (limit : ℕ) → (cper_listed rules cper id limit t).0 ≡ laid (take (room t) (rows_by limit rules cper id)) t
  rows_by_limit = of_tries.rows_by_limit lists

  pub row_count_by_limit : (limit : ℕ) → (cper_listed rules cper id limit t).1.rows ≡ length (take (room t) (rows_by limit rules cper id))
  row_count_by_limit = of_tries.row_count_by_limit lists

  pub tries_within_limit : (limit : ℕ) → (cper_listed rules cper id limit t).1.tries ≤ limit
  tries_within_limit = of_tries.tries_within_limit lists

  -- ---- with room for every row

  module _ (roomy : RoomForAll rules cper id t) (limit : ℕ) where
    -- a limit no smaller than the number of positions visited
    pub whole_listing_lem : length (cper_visited rules cper id) ≤ limit → cper_listed rules cper id limit t ≡ whole_listing rules cper id t
    whole_listing_lem = of_tries.whole_listing_lem lists roomy limit

    -- a smaller one
    pub cut_listing_lem : limit < length (cper_visited rules cper id) → cper_listed rules cper id limit t ≡ cut_listing limit rules cper id t
    cut_listing_lem = of_tries.cut_listing_lem lists roomy limit

    pub cut_answer : limit < length (cper_visited rules cper id) → number_of (cper_listed rules cper id limit t).1.answer ≡ 7
    cut_answer = of_tries.cut_answer lists roomy limit

    -- the tries reported are the positions visited, unless the limit cuts them
    pub tries_reported : (cper_listed rules cper id limit t).1.tries ≡ min limit (length (cper_visited rules cper id))
    tries_reported = of_tries.tries_reported lists roomy limit

-- five tries and five rows for each byte of the regions are always enough
pub five_times_enough : (rules cper id t : List ℕ) → Accepted rules cper → (limit : ℕ) → most_of (total (regions_of cper id)) ≤ limit → most_of (total (regions_of cper id)) ≤ room t
    → cper_listed rules cper id limit t ≡ whole_listing rules cper id t
five_times_enough rules cper id t ok =
    of_tries.most_enough (lists rules cper id t ok) (most_of (total (regions_of cper id))) (visited_five_times_total rules (regions_of cper id))

-- the rows that a limit leaves begin those of the whole listing
pub rows_begin_whole : (rules cper id : List ℕ) (limit : ℕ) → (rest : List Span) × (all_rows rules cper id ≡ rows_by limit rules cper id ++ rest)
rows_begin_whole rules cper id limit = (rows_found (drop limit (cper_tries rules cper id)), rows_split limit (cper_tries rules cper id))
