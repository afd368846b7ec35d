-- What stands where a region stops, and why it does (document 02, C-12).
use Rattle.std.specs.Prelude.{ℕ, Ok, Err}
use Rattle.answers.specs.Stops as stops
use Rattle.header_judge.specs.Head.{Head}
use Rattle.header_judge.specs.declared.NoRecord.{NoRecord}
use Rattle.header_judge.specs.declared.version.Ending.{Ending}
use Rattle.region_try.specs.declared.Cut.{Cut}
use Rattle.region_try.specs.declared.Cut.TheVariants.{Going, Full, Spent}
use Rattle.region_try.specs.declared.stop.Stop.{Stop}
use Rattle.region_try.specs.declared.stop.Stop.TheVariants.{Untold, EndOfInput, ZeroWord, DeadbeefWord, FewBytes, BadHeader, BadType, SizeZero}

-- what stands where a region stops: no byte, or a header that is no record; unknown where the walk is cut off
pub data Standing : Type 0 where
  unknown : Standing
  no_byte : Standing
  header : Head → Standing

-- what is told of it: nothing where the walk is cut off
abbrev pub standing_told : Cut → Standing → Standing
standing_told Going standing = standing
standing_told Full standing = unknown
standing_told Spent standing = unknown

-- ---- the reason

abbrev pub stop_ended : Ending → Stop
stop_ended Ending.ZeroWord = ZeroWord
stop_ended Ending.DeadbeefWord = DeadbeefWord
stop_ended Ending.FewBytes = FewBytes

-- by a header that is no record; a record is none where it declares no byte
abbrev pub stop_by : Head → Stop
stop_by (Err (NoRecord.Ended ending)) = stop_ended ending
stop_by (Err NoRecord.BadHeader) = BadHeader
stop_by (Err (NoRecord.BadType t)) = BadType
stop_by (Ok s) = SizeZero

abbrev pub stop_of : Standing → Stop
stop_of unknown = Untold
stop_of no_byte = EndOfInput
stop_of (header head) = stop_by head

-- its number; a bad type is a bad header
abbrev pub stop_number : Stop → ℕ
stop_number Untold = stops.untold
stop_number EndOfInput = stops.end_of_input
stop_number ZeroWord = stops.zero_word
stop_number DeadbeefWord = stops.deadbeef_word
stop_number FewBytes = stops.few_bytes
stop_number BadHeader = stops.bad_header
stop_number BadType = stops.bad_header
stop_number SizeZero = stops.size_zero

-- ---- the bad type; 0 where there is none

abbrev pub bad_type_by : Head → ℕ
bad_type_by (Err (NoRecord.Ended ending)) = 0
bad_type_by (Err NoRecord.BadHeader) = 0
bad_type_by (Err (NoRecord.BadType t)) = t
bad_type_by (Ok s) = 0

abbrev pub bad_type_of : Standing → ℕ
bad_type_of unknown = 0
bad_type_of no_byte = 0
bad_type_of (header head) = bad_type_by head
