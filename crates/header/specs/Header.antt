-- What a header decode answers (document 01, 'Record header' and 'Numbers the caller gets').
use Rattle.std.specs.Prelude.{ℕ, cond, List, Result, Ok, Err}
use Rattle.answers.specs.Numbers.{done, bad_rules, bad_header, bad_type, ended}
use Rattle.rules.specs.Rules.{valid_of}
use Rattle.layout.specs.Fields.{read_all}
use Rattle.header_judge.specs.Version.{ending_number, version_of}
use Rattle.header_judge.specs.Head.{record_size, extended_size, layout_of, count_of, Head, head_of}
use Rattle.header_judge.specs.declared.RecordSize.{RecordSize}
use Rattle.header_judge.specs.declared.Layout.{Layout}
use Rattle.header_judge.specs.declared.NoRecord.{NoRecord}
use Rattle.header.specs.Layouts.{table_of, type_from, statuses_from}
use Rattle.header.specs.declared.Header.{Header}
use Rattle.header.specs.declared.Refusal.{Refusal}
use Rattle.header.specs.declared.Refusal.TheVariants.{Ended, BadRules, BadHeader, BadType}
use Rattle.header.specs.declared.Judged.{Judged}
use Rattle.header.specs.declared.Decoded.{Decoded}

-- ---- refusals

-- document 01's number of each
abbrev pub number_of : Refusal → ℕ
number_of (Ended e) = ended
number_of BadRules = bad_rules
number_of BadHeader = bad_header
number_of (BadType t) = bad_type

-- and of whatever is refused or not
abbrev pub answer_of : {A : Type 0} → Result A Refusal → ℕ
answer_of (Ok x) = done
answer_of (Err refusal) = number_of refusal

-- the type that comes with it
abbrev pub type_told : Refusal → ℕ
type_told (Ended e) = 0
type_told BadRules = 0
type_told BadHeader = 0
type_told (BadType t) = t

-- the number of the ending that comes with it
abbrev pub ending_told : Refusal → ℕ
ending_told (Ended e) = ending_number e
ending_told BadRules = 0
ending_told BadHeader = 0
ending_told (BadType t) = 0

-- ---- a header judged

-- by what one try found
abbrev pub refusal_of : NoRecord → Refusal
refusal_of (NoRecord.Ended e) = Ended e
refusal_of NoRecord.BadHeader = BadHeader
refusal_of (NoRecord.BadType t) = BadType t

unfoldable pub judged_from : Head → Result Judged Refusal
judged_from (Err why) = Err (refusal_of why)
judged_from (Ok s) = Ok (record { word = s.word; flags = s.flags; declared = s.declared; header_size = s.size })

-- bad rules come first
unfoldable pub judged_of : List ℕ → List ℕ → Result Judged Refusal
judged_of rules bs = cond (valid_of rules) (judged_from (head_of rules bs)) (Err BadRules)

-- ---- and decoded

-- the numbers of a layout's table
unfoldable pub numbers_of : List ℕ → Layout → List ℕ
numbers_of bs l = read_all (table_of l (count_of bs)) bs

abbrev pub size_of_record : List ℕ → ℕ → RecordSize
size_of_record bs flags = record { record_size = record_size bs flags; extended_record_size = extended_size bs flags }

-- the header at the start of some bytes, whose word and flags are known
abbrev pub header_of : List ℕ → ℕ → ℕ → Header
header_of bs word flags =
    record {
      version = version_of word;
      size = size_of_record bs flags;
      header_type = type_from (layout_of word flags) (numbers_of bs (layout_of word flags));
      completion_statuses = statuses_from (numbers_of bs (layout_of word flags));
    }

-- what was judged, with the whole header
abbrev pub decoded_from : List ℕ → Result Judged Refusal → Result Decoded Refusal
decoded_from bs (Ok j) =
    Ok (record { header = header_of bs j.word j.flags; flags = j.flags; declared = j.declared; header_size = j.header_size })
decoded_from bs (Err refusal) = Err refusal

unfoldable pub decoded_of : List ℕ → List ℕ → Result Decoded Refusal
decoded_of rules bs = decoded_from bs (judged_of rules bs)
