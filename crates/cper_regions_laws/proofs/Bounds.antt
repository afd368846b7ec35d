-- A listing makes at most five tries for each byte of the regions; for each four bytes, rounded up for each region, where no rule has the flag for sizes in bytes.
-- By induction over the regions, from the bound of one, in any unit. Assumes nothing.
use mathlib.Core.Path.{◌≡◌}
use mathlib.Core.List.{List, [], ◌∷◌, flat_map}
use mathlib.Core.Bool.{true}
use Prim.Native.Nat.{ℕ, ◌≤◌}
use native.Mathlib.Omega.{arith}
use lib.ListN.{length, length-append}
use Rattle.rules.specs.Rules.{sizes_in_bytes, rules_of, none_has}
use Rattle.region.specs.declared.Listing.{Listing}
use Rattle.region_laws.specs.Positions.{visited_from}
use Rattle.region_laws.specs.Whole.{most_of, fours}
use Rattle.region_laws.proofs.Bounds.{visited_from_five_times, visited_from_five_times_fours}
use Rattle.region_laws.proofs.Shown.{tries_le}
use Rattle.cper_regions.specs.Regions.{Region, regions_of}
use Rattle.cper_regions.specs.Listing.{cper_tries, room, cper_listed}
use Rattle.cper_regions_laws.specs.Positions.{visited_in, cper_visited, total_of, total, total_fours}
use Rattle.cper_regions_laws.proofs.Positions.{tries_visited}
use Rattle.cper_regions_laws.proofs.Refusals.{listed_cases}

module _ (rules : List ℕ) (u : ℕ → ℕ) (few : (at : ℕ) (bytes : List ℕ) → length (visited_from rules at bytes) ≤ most_of (u (length bytes))) where
  visited_bound : (gs : List Region) → length (visited_in rules gs) ≤ most_of (total_of u gs)
  unfolding flat_map total_of
  visited_bound [] = omega arith
  visited_bound (g ∷ gs) =
      let a : length (visited_from rules g.offset g.bytes) ≤ most_of (u (length g.bytes)) = few g.offset g.bytes in
      let b : length (visited_in rules gs) ≤ most_of (total_of u gs) = visited_bound gs in
      simp length-append (omega arith)

-- at most 5 times the total of the walked lengths
pub visited_five_times_total : (rules : List ℕ) (regions : List Region) → length (visited_in rules regions) ≤ most_of (total regions)
visited_five_times_total rules = visited_bound rules (λ n. n) (visited_from_five_times rules)

-- at most 5 times the total of the rounded-up quarters, where no rule selects byte sizes
pub visited_five_times_quarters : (rules : List ℕ) → none_has sizes_in_bytes (rules_of rules) ≡ true → (regions : List Region) → length (visited_in rules regions) ≤ most_of (total_fours regions)
visited_five_times_quarters rules words = visited_bound rules fours (visited_from_five_times_fours rules words)

-- for every input, limit and table
module _ (rules cper id : List ℕ) (limit : ℕ) (t : List ℕ) where
  tries_few : (most : ℕ) → length (cper_visited rules cper id) ≤ most → (cper_listed rules cper id limit t).1.tries ≤ most
  tries_few most h =
      let n : length (cper_tries rules cper id) ≡ length (cper_visited rules cper id) = tries_visited rules cper id in
      listed_cases rules cper id limit t (λ (x : List ℕ × Listing). x.1.tries ≤ most) (omega arith) (omega arith) (omega arith)
      (λ ok. omega (arith, tries_le limit (room t) (cper_tries rules cper id)))

  pub tries_five_times_total : (cper_listed rules cper id limit t).1.tries ≤ most_of (total (regions_of cper id))
  tries_five_times_total = tries_few (most_of (total (regions_of cper id))) (visited_five_times_total rules (regions_of cper id))

  pub tries_five_times_quarters : none_has sizes_in_bytes (rules_of rules) ≡ true → (cper_listed rules cper id limit t).1.tries ≤ most_of (total_fours (regions_of cper id))
  tries_five_times_quarters words = tries_few (most_of (total_fours (regions_of cper id))) (visited_five_times_quarters rules words (regions_of cper id))
