-- The positions at which the walks of a CPER's regions try a header, and how long the regions are together (document 00, demand 3; document 02, C-15).
use Rattle.std.specs.Prelude.{ℕ, ◌+◌, length}
use mathlib.Core.List.{List, [], ◌∷◌, flat_map}
use Rattle.region_laws.specs.Positions.{visited_from}
use Rattle.region_laws.specs.Whole.{fours}
use Rattle.cper_regions.specs.Regions.{Region, regions_of}

-- the positions in the file that the nested walks of some regions visit, one region after the other
abbrev pub visited_in : List ℕ → List Region → List ℕ
visited_in rules regions = flat_map (λ g. visited_from rules g.offset g.bytes) regions

-- and those of all regions of a CPER
abbrev pub cper_visited : List ℕ → List ℕ → List ℕ → List ℕ
cper_visited rules cper id = visited_in rules (regions_of cper id)

-- the sum of some regions' lengths, each in units of its own
unfoldable pub total_of : (ℕ → ℕ) → List Region → ℕ
total_of units [] = 0
total_of units (g ∷ gs) = units (length g.bytes) + total_of units gs

-- in bytes
abbrev pub total : List Region → ℕ
total regions = total_of (λ n. n) regions

-- in fours of bytes, rounded up for each region
abbrev pub total_fours : List Region → ℕ
total_fours regions = total_of fours regions
