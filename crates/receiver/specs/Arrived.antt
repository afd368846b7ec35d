-- The level-0 part of the nested walk over some bytes, and the records of it that are all in (document 02, C-11).
use Rattle.std.specs.Prelude.{ℕ, ◌+◌, List, [], ◌∷◌, Bool, cond, ◌&&◌}
use Rattle.region_rows.specs.declared.Span.{Span}
use Rattle.region_rows.specs.Rows.{top}
use Rattle.region_try.specs.Tries.{Try, none, hit, deepest, Inside, records}
use Rattle.region_try.specs.Whole.{filled, keeps_whole}

-- a Box that is not opened
abbrev pub closed : Inside
closed held offset size row = []

-- the tries at level 0 in some bytes that start at an offset: the nested walk's, with no Box opened
unfoldable pub top_tries : List ℕ → List ℕ → ℕ → List Try
top_tries rules bytes offset = records rules closed deepest top 0 bytes offset 0

-- the rows before the first try that finds no record, or one that lacks bytes
unfoldable pub all_in : List Try → List Span
all_in [] = []
all_in (none level offset head ∷ vs) = []
all_in (hit r ∷ vs) = cond (filled r) (r ∷ all_in vs) []

-- the records at level 0 that are all in
abbrev pub arrived : List ℕ → List ℕ → ℕ → List Span
arrived rules bytes offset = all_in (top_tries rules bytes offset)

-- the bytes of some records
unfoldable pub extent : List Span → ℕ
extent [] = 0
extent (r ∷ rs) = r.declared + extent rs

-- `whole` after some records more
unfoldable pub whole_with : Bool → List Span → Bool
whole_with whole [] = whole
whole_with whole (r ∷ rs) = whole_with (whole && keeps_whole (hit r)) rs
