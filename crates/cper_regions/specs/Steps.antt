-- What the inner functions ask and give: the regions of some sections, walked one after the other.
use Rattle.std.specs.Prelude.{ℕ, ◌*◌, ◌≤◌, List, length}
use Rattle.answers.specs.Numbers.{most_bytes}
use Rattle.region_rows.specs.Rows.{width}
use Rattle.region_try.specs.Steps.{Walk, run}
use Rattle.region_walk.specs.declared.bounds.Bounds.{Bounds}
use Rattle.cper_sections.specs.declared.kept.Section.{Section}
use Rattle.cper_regions.specs.Regions.{regions_in}
use Rattle.cper_regions.specs.Listing.{joined_tries}

-- what a walk asks: offsets fit their type, and the rows fit in the lent table
pub record Openable (cper : List ℕ) (b : Bounds) (spans : List ℕ) : Type 0 where
  pub short : length cper ≤ most_bytes
  pub rows : b.room * width ≤ length spans

-- the regions of some sections, walked from where a walk stands
abbrev pub sections_run : List ℕ → List ℕ → Bounds → List Section → Walk → Walk
sections_run cper id b ks m = run b.limit b.room (joined_tries b.rules.now (regions_in cper id ks) m.1.rows) m
