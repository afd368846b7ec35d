-- The version word of a record header (document 01, 'Record header'): its fields, and the word that they make.
use Rattle.std.specs.Prelude.{ℕ, ◌+◌, ◌*◌, ◌/◌, ◌%◌, ◌<◌, Bool, true, false, cond, List, Result, Ok, Err, eqb, ltb, length}
use Rattle.answers.specs.Stops as stops
use Rattle.le.specs.Le.{le}
use Rattle.header_judge.specs.declared.version.Version.{Version}
use Rattle.header_judge.specs.declared.version.Ending.{Ending}
use Rattle.header_judge.specs.declared.version.Ending.TheVariants.{ZeroWord, DeadbeefWord, FewBytes}

-- what stands for a word where there is none
abbrev pub no_word : ℕ
no_word = 0

-- the word that marks the end of the records, beside 0
abbrev pub end_mark : ℕ
end_mark = 0xdeadbeef

-- the version word at the start of some bytes; none under 4 bytes, at word 0 and at the end mark
unfoldable pub word_of : List ℕ → ℕ
word_of bs = cond (ltb (length bs) 4) no_word (cond (eqb (le 4 bs 0) end_mark) no_word (le 4 bs 0))

-- how the records end where there is no word (document 02, C-12)
unfoldable pub ending_of : List ℕ → Ending
ending_of bs = cond (ltb (length bs) 4) FewBytes (cond (eqb (le 4 bs 0) end_mark) DeadbeefWord ZeroWord)

-- the number of each ending
abbrev pub ending_number : Ending → ℕ
ending_number ZeroWord = stops.zero_word
ending_number DeadbeefWord = stops.deadbeef_word
ending_number FewBytes = stops.few_bytes

-- ---- the fields of a word, by their lowest bit

-- bits 0 to 7
abbrev pub revision : ℕ → ℕ
revision word = word % 256

-- bits 8 to 11
abbrev pub header_type : ℕ → ℕ
header_type word = word / 256 % 16

-- bits 12 to 23
abbrev pub product_id : ℕ → ℕ
product_id word = word / 4096 % 4096

-- bits 24 to 29
abbrev pub record_type : ℕ → ℕ
record_type word = word / 16777216 % 64

-- bit 30
abbrev pub cldic : ℕ → Bool
cldic word = eqb (word / 1073741824 % 2) 1

-- bit 31
abbrev pub consumed : ℕ → Bool
consumed word = eqb (word / 2147483648 % 2) 1

abbrev pub version_of : ℕ → Version
version_of word =
    record {
      revision = revision word;
      header_type = header_type word;
      product_id = product_id word;
      record_type = record_type word;
      consumed = consumed word;
      cldic = cldic word;
    }

-- the fields, or how the records end
abbrev pub start_of : List ℕ → Result Version Ending
start_of bs = cond (eqb (word_of bs) no_word) (Err (ending_of bs)) (Ok (version_of (word_of bs)))

-- ---- the word of some fields

-- each field is within its bits
pub record InBits (v : Version) : Type 0 where
  pub revision : v.revision < 256
  pub header : v.header_type < 16
  pub product : v.product_id < 4096
  pub kind : v.record_type < 64

abbrev pub bit : Bool → ℕ
bit true = 1
bit false = 0

abbrev pub word_from : Version → ℕ
word_from v =
    v.revision + v.header_type * 256 + v.product_id * 4096 + v.record_type * 16777216
    + bit v.cldic * 1073741824 + bit v.consumed * 2147483648
