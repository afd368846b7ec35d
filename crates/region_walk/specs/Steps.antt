-- What a walk asks, and what the region walk and the Box walk give.
use Rattle.std.specs.Prelude.{ℕ, ◌+◌, ◌-◌, ◌*◌, ◌≤◌, ◌<◌, ◌^◌, List, Bool, length}
use Rattle.region_rows.specs.Rows.{width}
use Rattle.region_try.specs.Stops.{Standing, standing_told, stop_of, bad_type_of}
use Rattle.region_try.specs.Tries.{Try, deepest, stands_at, box_tries, region_tries}
use Rattle.region_try.specs.Steps.{Walk, state, run, box_whole}
use Rattle.region_try.specs.declared.Cut.{Cut}
use Rattle.region_try.specs.declared.Cut.TheVariants.{Going}
use Rattle.region_try.specs.declared.stop.Stop.{Stop}
use Rattle.region_try.specs.declared.stop.Stop.TheVariants.{Untold}
use Rattle.region_try.specs.declared.State.{State}
use Rattle.region_walk.specs.declared.bounds.Bounds.{Bounds}
use Rattle.region_walk.specs.declared.Walked.{Walked}

-- what a walk asks: offsets fit their type, the levels are those that there are, and the rows fit in the lent table
pub record Walkable (bytes : List ℕ) (base levels : ℕ) (b : Bounds) (spans : List ℕ) : Type 0 where
  pub offsets : base + length bytes < 2 ^ 32
  pub deep : levels ≤ deepest
  pub rows : b.room * width ≤ length spans

-- a walk that goes on
abbrev pub going : List ℕ → ℕ → ℕ → Bool → Walk
going t rows tries whole = (t, state rows tries whole Going)

-- the end of a region's walk: the counts, why the region stops, and its bad type
abbrev pub walk_end : ℕ → ℕ → Bool → Cut → Stop → ℕ → Walked
walk_end rows tries whole cut stop type =
    record { rows = rows; tries = tries; whole = whole; cut = cut; stop = stop; bad_type = type }

-- that of a walk of which no stop is told
abbrev pub untold : State → Walked
untold s = walk_end s.rows s.tries s.whole s.cut Untold 0

-- the counts alone
abbrev pub counts_of : Walked → State
counts_of w = state w.rows w.tries w.whole w.cut

-- the table and the end of a walk, of whose stop this is told
abbrev pub end_telling : Standing → Walk → List ℕ × Walked
end_telling told m = (m.0, walk_end m.1.rows m.1.tries m.1.whole m.1.cut (stop_of told) (bad_type_of told))

-- the same where this stands, of which a walk that is cut off tells nothing
abbrev pub end_where : Standing → Walk → List ℕ × Walked
end_where standing m = end_telling (standing_told m.1.cut standing) m

-- what stands where a region with so many levels left stops, by its tries
abbrev pub stands_in : ℕ → List Try → Standing
stands_in levels vs = stands_at (deepest - levels) vs

-- its tries, run
abbrev pub region_end : ℕ → ℕ → ℕ → List Try → Walk → List ℕ × Walked
region_end limit room levels vs m = end_where (stands_in levels vs) (run limit room vs m)

-- the tries of a region
abbrev pub region_run : Bounds → ℕ → List ℕ → ℕ → ℕ → Walk → List ℕ × Walked
region_run b levels bytes base parent m = region_end b.limit b.room levels (region_tries b.rules.now levels bytes base parent m.1.rows) m

-- the tries inside a Box whose row is the last, from the table, the tries and `whole` before it is opened
abbrev pub box_run : Bounds → ℕ → List ℕ → ℕ → ℕ → ℕ → List ℕ → ℕ → Bool → Walk
box_run b levels held base size row t tries whole =
    run b.limit b.room (box_tries b.rules.now levels held base size row) (going t (row + 1) tries (box_whole levels size (length held) whole))
