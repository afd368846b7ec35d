-- What the inner functions of the walk give: tries made one after the other under a limit, into the rows of a table that has so much room.
use Rattle.std.specs.Prelude.{ℕ, ◌+◌, ◌-◌, ◌≤◌, ◌<◌, List, [], ◌∷◌, Bool, false, cond, not, ◌&&◌, leb, length, Err}
use Rattle.header_judge.specs.Head.{is_box, head_with}
use Rattle.header_judge.specs.declared.NoRecord.{NoRecord}
use Rattle.region_rows.specs.Rows.{with_span}
use Rattle.region_try.specs.Stops.{stop_by, bad_type_by}
use Rattle.region_try.specs.Tries.{Try, none, hit, try_of, deepest}
use Rattle.region_try.specs.Whole.{unopened, keeps_whole}
use Rattle.region_try.specs.declared.Cut.{Cut}
use Rattle.region_try.specs.declared.Cut.TheVariants.{Going, Full, Spent}
use Rattle.region_try.specs.declared.State.{State}
use Rattle.region_try.specs.declared.Found.{Found}
use Rattle.region_try.specs.declared.Found.TheVariants.{Nothing, NoRoom, Row}

-- a walk so far: the table and the counts
abbrev pub Walk : Type 0
Walk = List ℕ × State

-- rows, tries, whether all is whole so far, and what cut the walk off
abbrev pub state : ℕ → ℕ → Bool → Cut → State
state rows tries whole cut = record { rows = rows; tries = tries; whole = whole; cut = cut }

-- what is found where no record is
abbrev pub nothing_for : NoRecord → Found
nothing_for why = Nothing (stop_by (Err why)) (bad_type_by (Err why))

-- the try of the header at the start of some bytes, whose word and flags are known
abbrev pub try_at : ℕ → ℕ → ℕ → List ℕ → ℕ → ℕ → Try
try_at level parent offset bytes word flags = try_of level parent offset (length bytes) (head_with bytes word flags)

-- the table after a try, and what it finds; a record needs a free row
unfoldable pub found : ℕ → ℕ → Try → List ℕ → List ℕ × Found
found room rows (none level offset head) t = (t, Nothing (stop_by head) (bad_type_by head))
found room rows (hit r) t =
    cond (leb room rows) (t, NoRoom)
    (with_span t rows r, Row r.held r.declared r.size (is_box r.word r.flags))

-- the counts after a try; a walk that is cut off is not whole
abbrev pub counted : ℕ → ℕ → Bool → Found → State
counted rows tries whole (Nothing stop type) = state rows tries whole Going
counted rows tries whole NoRoom = state rows tries false Full
counted rows tries whole (Row held declared size boxed) = state (rows + 1) tries whole Going

-- a try that is due: it is made where the limit is not reached
abbrev pub due : ℕ → ℕ → Try → List ℕ → ℕ → ℕ → Bool → Walk
due limit room v t rows tries whole =
    cond (leb limit tries) (t, state rows tries false Spent)
    ((found room rows v t).0, counted rows (tries + 1) (whole && keeps_whole v) (found room rows v t).1)

-- a walk that is cut off stays as it is
abbrev pub if_going : Cut → Walk → Walk → Walk
if_going Going next m = next
if_going Full next m = m
if_going Spent next m = m

-- one try
unfoldable pub step : ℕ → ℕ → Try → Walk → Walk
step limit room v m = if_going m.1.cut (due limit room v m.0 m.1.rows m.1.tries m.1.whole) m

-- the tries made one after the other
unfoldable pub run : ℕ → ℕ → List Try → Walk → Walk
run limit room [] m = m
run limit room (v ∷ vs) m = run limit room vs (step limit room v m)

-- `whole` at a Box whose region has so many levels left: it stays unless the Box is left unopened for its header
abbrev pub box_whole : ℕ → ℕ → ℕ → Bool → Bool
box_whole levels size held whole = whole && not (unopened (deepest - levels) size held)

-- the bounds of a record's sizes
abbrev pub RowBounds : Found → Type 0
RowBounds (Nothing stop type) = Unit {0}
RowBounds NoRoom = Unit {0}
RowBounds (Row held declared size boxed) = (0 < declared) × (declared ≤ 524280) × (0 < size) × (size ≤ 536)
