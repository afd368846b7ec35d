-- What the header at the start of some bytes is, as far as a span row needs it (document 01, 'Record header').
use Rattle.std.specs.Prelude.{ℕ, ◌≡◌, ◌+◌, ◌*◌, ◌/◌, ◌%◌, List, [], ◌∷◌, Bool, cond, ◌||◌, eqb, ltb, length, get_or, Option, Some, None, Result, Ok, Err}
use Rattle.answers.specs.Numbers.{done, bad_header, bad_type, ended}
use Rattle.le.specs.Le.{le}
use Rattle.basics.specs.Bits.{has}
use Rattle.rules.specs.Rules.{legacy_server, legacy_gpu, legacy_server_box, sizes_in_bytes, flags_of}
use Rattle.header_judge.specs.Version.{no_word, word_of, ending_of, revision, header_type, record_type}
use Rattle.header_judge.specs.declared.Layout.{Layout}
use Rattle.header_judge.specs.declared.Layout.TheVariants.{Zero, One, Two, Three, Four, Five, Six, LegacyServer, LegacyGpu, Bad}
use Rattle.header_judge.specs.declared.Shape.{Shape}
use Rattle.header_judge.specs.declared.origin.Origin.{Origin}
use Rattle.header_judge.specs.declared.Summary.{Summary}
use Rattle.header_judge.specs.declared.NoRecord.{NoRecord}
use Rattle.header_judge.specs.declared.NoRecord.TheVariants.{Ended, BadHeader, BadType}

-- ---- sizes

-- flag 1 or 2
abbrev pub legacy : ℕ → Bool
legacy flags = has flags legacy_server || has flags legacy_gpu

-- the record's size and its extended size as they are written
abbrev pub record_size : List ℕ → ℕ → ℕ
record_size bs flags = cond (legacy flags) (le 2 bs 16) (le 2 bs 4)

abbrev pub extended_size : List ℕ → ℕ → ℕ
extended_size bs flags = cond (legacy flags) 0 (le 2 bs 6)

-- where the size fields end
abbrev pub sizes_end : ℕ → ℕ
sizes_end flags = cond (legacy flags) 18 8

-- the bytes that sizes count in
abbrev pub unit : ℕ → ℕ
unit flags = cond (has flags sizes_in_bytes) 1 4

-- the bytes that a record declares
unfoldable pub declared_of : List ℕ → ℕ → ℕ
declared_of bs flags = (record_size bs flags + extended_size bs flags) * unit flags

-- ---- layout

-- the layouts of the header types 0 to 6; every other type is bad
abbrev pub type_layout : ℕ → Layout
type_layout t = get_or (Zero ∷ One ∷ Two ∷ Three ∷ Four ∷ Five ∷ Six ∷ []) t Bad

-- flag 1 chooses the legacy server layout, else flag 2 the legacy GPU layout, else the header type decides
abbrev pub layout_of : ℕ → ℕ → Layout
layout_of word flags =
    cond (has flags legacy_server) LegacyServer
    (cond (has flags legacy_gpu) LegacyGpu (type_layout (header_type word)))

-- ---- header size

-- what a layout has that has no size
abbrev pub no_size : ℕ
no_size = 0

-- the size of a layout's header, with so many status words
abbrev pub size_for : Layout → ℕ → ℕ
size_for Zero count = 8
size_for One count = 8
size_for Two count = 24
size_for Three count = 28
size_for Four count = 32
size_for Five count = 32
size_for Six count = 28 + 4 * count
size_for LegacyServer count = 32
size_for LegacyGpu count = 32
size_for Bad count = no_size

-- the count of status words of a type 6 header; 0 where its bytes are lacking
abbrev pub count_of : List ℕ → ℕ
count_of bs = cond (ltb (length bs) 28) 0 (le 2 bs 26 % 128)

-- the layout that a header type chooses, and the header's size; a bad type chooses none
abbrev pub shape_of : List ℕ → ℕ → Option Shape
shape_of bs t = cond (ltb t 7) (Some (record { layout = type_layout t; size = size_for (type_layout t) (count_of bs) })) None

-- the size of the header's layout
abbrev pub layout_size : List ℕ → ℕ → ℕ → ℕ
layout_size bs word flags = size_for (layout_of word flags) (count_of bs)

-- a layout's size, where its type is not bad and so many bytes are there
abbrev pub sized : List ℕ → ℕ → ℕ → Result ℕ NoRecord
sized bs word size =
    cond (eqb size no_size) (Err (BadType (header_type word))) (cond (ltb (length bs) size) (Err BadHeader) (Ok size))

-- the header's size, or why there is none; the sizes are read before the type is judged
unfoldable pub size_of : List ℕ → ℕ → ℕ → Result ℕ NoRecord
size_of bs word flags =
    cond (ltb (length bs) (sizes_end flags)) (Err BadHeader) (sized bs word (layout_size bs word flags))

-- a header all of whose bytes are there
abbrev pub Complete : List ℕ → ℕ → ℕ → Type 0
Complete bs word flags = size_of bs word flags ≡ Ok (layout_size bs word flags)

-- ---- socket and die

-- what stands for a die where there is none
abbrev pub no_die : ℕ
no_die = 4294967295

-- the die of a legacy server header, by its revision's lowest two bits and bit 7
abbrev pub server_die : ℕ → ℕ
server_die rev = cond (eqb (rev / 128 % 2) 1) (rev % 4 + 9) (rev % 4 * 4)

-- a header that names neither
abbrev pub unnamed : Origin
unnamed = record { socket = 0; die = no_die }

-- what a header of a layout names: type 6 has both in its bytes, a legacy server header the socket in its bytes and the die by its revision
abbrev pub origin_in : Layout → List ℕ → ℕ → Origin
origin_in Zero bs word = unnamed
origin_in One bs word = unnamed
origin_in Two bs word = unnamed
origin_in Three bs word = unnamed
origin_in Four bs word = unnamed
origin_in Five bs word = unnamed
origin_in Six bs word = record { socket = le 1 bs 25; die = le 1 bs 24 }
origin_in LegacyServer bs word = record { socket = le 1 bs 24; die = server_die (revision word) }
origin_in LegacyGpu bs word = unnamed
origin_in Bad bs word = unnamed

-- the socket and the die that a header names
unfoldable pub origin_of : List ℕ → ℕ → ℕ → Origin
origin_of bs word flags = origin_in (layout_of word flags) bs word

-- ---- one try

-- a Box: record type 0x3D, or flag 4
abbrev pub is_box : ℕ → ℕ → Bool
is_box word flags = eqb (record_type word) 0x3d || has flags legacy_server_box

-- what a header says of its record, where its word and flags are known
abbrev pub summary_of : List ℕ → ℕ → ℕ → Summary
summary_of bs word flags =
    record {
      word = word;
      flags = flags;
      declared = declared_of bs flags;
      size = layout_size bs word flags;
      socket = (origin_of bs word flags).socket;
      die = (origin_of bs word flags).die;
    }

-- what one try finds: what the header says of its record, or why there is none
abbrev pub Head : Type 0
Head = Result Summary NoRecord

-- the header, by its size
abbrev pub head_sized : List ℕ → ℕ → ℕ → Result ℕ NoRecord → Head
head_sized bs word flags (Err why) = Err why
head_sized bs word flags (Ok size) = Ok (summary_of bs word flags)

-- the header, where its word and flags are known
unfoldable pub head_with : List ℕ → ℕ → ℕ → Head
head_with bs word flags = cond (eqb word no_word) (Err (Ended (ending_of bs))) (head_sized bs word flags (size_of bs word flags))

-- the header at the start of some bytes, under a rule table
unfoldable pub head_of : List ℕ → List ℕ → Head
head_of rules bs = head_with bs (word_of bs) (flags_of rules (word_of bs))

-- the bytes that a record declares; 0 where there is none
unfoldable pub declared_by : Head → ℕ
declared_by (Err why) = 0
declared_by (Ok s) = s.declared

-- document 01's number of each case
abbrev pub number_of : Head → ℕ
number_of (Err (Ended ending)) = ended
number_of (Err BadHeader) = bad_header
number_of (Err (BadType t)) = bad_type
number_of (Ok s) = done
