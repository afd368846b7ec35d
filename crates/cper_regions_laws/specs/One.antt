-- The listing of a CPER with one region beside that of the region alone (document 02, C-15).
use Rattle.std.specs.Prelude.{ℕ, ◌≡◌, List, map}
use Rattle.region.specs.declared.Answer.{Answer}
use Rattle.region.specs.declared.Answer.TheVariants.{Done, TooLong, BadRules, NotCper, BadHeader, BadType, Empty, SpansFull, TriesSpent}
use Rattle.region.specs.declared.Listing.{Listing}
use Rattle.region_laws.specs.Clauses.{rows_of}
use Rattle.cper_regions_laws.specs.Moved.{shifted}

-- the answer of a region as that of a CPER: without a record it is skipped, whatever stands there
abbrev pub skipped : Answer → Answer
skipped Done = Done
skipped TooLong = TooLong
skipped BadRules = BadRules
skipped NotCper = NotCper
skipped BadHeader = Empty
skipped (BadType t) = Empty
skipped Empty = Empty
skipped SpansFull = SpansFull
skipped TriesSpent = TriesSpent

-- a file's listing, beside that of its region at an offset
pub record Beside (at : ℕ) (file region : List ℕ × Listing) : Type 0 where
  pub rows : rows_of file ≡ map (shifted at) (rows_of region)
  pub count : file.1.rows ≡ region.1.rows
  pub tries : file.1.tries ≡ region.1.tries
  pub whole : file.1.whole ≡ region.1.whole
  pub answer : file.1.answer ≡ skipped region.1.answer
