-- The tries are made at the positions that the walks of the regions visit, one region after the other.
-- By induction over the regions, from the law of one. Assumes nothing.
use mathlib.Core.Path.{◌≡◌, refl, ap, ap₂, sym, ◌∙◌}
use mathlib.Core.List.{List, [], ◌∷◌, ◌++◌, map, flat_map, map-append}
use Prim.Native.Nat.{ℕ, ◌+◌}
use lib.ListN.{length, length-map}
use Rattle.region_try.specs.Tries.{rows_found}
use Rattle.region_laws.specs.Positions.{offset_of}
use Rattle.region_laws.proofs.Positions.{region_tried_at}
use Rattle.cper_regions.specs.Regions.{Region, regions_of}
use Rattle.cper_regions.specs.Listing.{tries_in, joined_tries, cper_tries}
use Rattle.cper_regions_laws.specs.Positions.{visited_in, cper_visited}

joined_at : (rules : List ℕ) (gs : List Region) (n : ℕ) → map offset_of (joined_tries rules gs n) ≡ visited_in rules gs
unfolding joined_tries flat_map
joined_at rules [] n = refl
joined_at rules (g ∷ gs) n =
    let m = n + length (rows_found (tries_in rules g n)) in
    map-append offset_of (tries_in rules g n) (joined_tries rules gs m)
    ∙ ap₂ (λ (a b : List ℕ). a ++ b) (region_tried_at rules g.bytes g.offset n) (joined_at rules gs m)

module _ (rules cper id : List ℕ) where
  -- each try is made at the next position that the walks visit
  pub tried_at : map offset_of (cper_tries rules cper id) ≡ cper_visited rules cper id
  tried_at = joined_at rules (regions_of cper id) 0

  pub tries_visited : length (cper_tries rules cper id) ≡ length (cper_visited rules cper id)
  tries_visited = sym (length-map (cper_tries rules cper id) offset_of) ∙ ap length tried_at
