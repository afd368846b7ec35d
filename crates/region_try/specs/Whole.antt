-- Which tries leave a listing whole (document 02, C-14).
use Rattle.std.specs.Prelude.{ℕ, List, [], ◌∷◌, Bool, true, false, not, ◌&&◌, leb, ltb}
use Rattle.header_judge.specs.Head.{is_box}
use Rattle.region_rows.specs.declared.Span.{Span}
use Rattle.region_try.specs.Stops.{stop_by}
use Rattle.region_try.specs.Tries.{Try, none, hit, deepest}
use Rattle.region_try.specs.declared.stop.Stop.{Stop}
use Rattle.region_try.specs.declared.stop.Stop.TheVariants.{Untold, EndOfInput, ZeroWord, DeadbeefWord, FewBytes, BadHeader, BadType, SizeZero}

-- a region stops at its input's end, or at a zero or 0xdeadbeef word
abbrev pub clean_stop : Stop → Bool
clean_stop Untold = false
clean_stop EndOfInput = true
clean_stop ZeroWord = true
clean_stop DeadbeefWord = true
clean_stop FewBytes = false
clean_stop BadHeader = false
clean_stop BadType = false
clean_stop SizeZero = false

-- a row holds no less than it declares
abbrev pub filled : Span → Bool
filled r = leb r.declared r.held

-- a Box below level 4 is left unopened because its header exceeds its held bytes: from its level, its header's size and its held bytes
abbrev pub unopened : ℕ → ℕ → ℕ → Bool
unopened level size held = ltb level deepest && ltb held size

abbrev pub box_unopened : Span → Bool
box_unopened r = is_box r.word r.flags && unopened r.level r.size r.held

-- one try; the end of an input leaves none
unfoldable pub keeps_whole : Try → Bool
keeps_whole (none level offset head) = clean_stop (stop_by head)
keeps_whole (hit r) = filled r && not (box_unopened r)

-- every try
unfoldable pub all_keep_whole : List Try → Bool
all_keep_whole [] = true
all_keep_whole (v ∷ vs) = keeps_whole v && all_keep_whole vs
