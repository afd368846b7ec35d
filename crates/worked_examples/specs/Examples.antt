-- The worked examples P1 to P12 of document 01, 'Checked examples', with each ending and each reason of document 02's C-12, each clause of its C-14
-- and the socket and die of each layout of its C-17, as one table of rows.
use Rattle.std.specs.Prelude.{ℕ, zero, suc, ◌+◌, ◌*◌, ◌/◌, ◌%◌, Bool, true, false, List, [], ◌∷◌, ◌++◌, Option, Some, None, Result, Ok, Err, length, take, replicate}
use Rattle.answers.specs.Numbers.{done, ended}
use Rattle.header_judge.specs.Head.{no_die}
use Rattle.header.specs.Access.{die_of}
use Rattle.header.specs.Header.{number_of, ending_told, decoded_of}
use Rattle.header.specs.declared.Decoded.{Decoded}
use Rattle.header.specs.declared.Refusal.{Refusal}
use Rattle.header.specs.declared.HeaderType.{HeaderType}
use Rattle.header.specs.declared.HeaderType.TheVariants.{Type0, Type1, Type2, Type3, Type4, Type5, Type6, Type0LegacyServer, Type0LegacyGpu}
use Rattle.region_rows.specs.declared.Span.{Span}
use Rattle.region_rows.specs.Rows.{width, top, span_at, flat}
use Rattle.region_try.specs.Stops.{stop_number}
use Rattle.region.specs.Listing.{listed, type_of, number_of as listing_number}

-- ---- the kinds of examples

pub data Example : Type 0 where
  -- a region listed with no rules under a limit, into so many rows: answer, type, rows, tries, `whole`, why the top region stopped, and the rows
  lists : (bytes : List ℕ) (limit room answer type rows tries : ℕ) (whole : Bool) (stop : ℕ) (spans : List Span) → Example
  -- a region listed with sizes in bytes: answer and `whole`
  marks : (bytes : List ℕ) (answer : ℕ) (whole : Bool) → Example
  -- bytes that decode to no header, since the records have ended
  ends : (bytes : List ℕ) (ending : ℕ) → Example
  -- the die of a legacy server header of a revision, decoded under a rule that makes it one
  die : (revision id : ℕ) → Example
  -- a record of a header type and a revision, listed under a rule that gives it flags: the socket and the die of its row
  names : (type revision flags socket id : ℕ) → Example
  -- a type 6 header with a halfword at 26: status count, complete, header size
  half : (word count : ℕ) (complete : Bool) (size : ℕ) → Example

-- ---- the inputs

-- the two words that end the records
abbrev zeros : List ℕ
zeros = 0 ∷ 0 ∷ 0 ∷ 0 ∷ []

abbrev deadbeef : List ℕ
deadbeef = 0xef ∷ 0xbe ∷ 0xad ∷ 0xde ∷ []

-- P4 to P7: a Punit record header, of which each byte string is a part or a variation
abbrev punit : ℕ → ℕ → List ℕ
punit type size = 0x01 ∷ type ∷ 0x12 ∷ 0x03 ∷ size ∷ 0 ∷ 0 ∷ 0 ∷ []

-- P10: six Boxes, each the payload of the last
abbrev box : ℕ → List ℕ
box words = 0x01 ∷ 0x31 ∷ 0x12 ∷ 0x3d ∷ words ∷ 0 ∷ 0 ∷ 0 ∷ []

abbrev boxes : List ℕ
boxes = box 12 ++ (box 10 ++ (box 8 ++ (box 6 ++ (box 4 ++ box 2))))

-- P11 and P12: the dump input
abbrev dumped : List ℕ
dumped =
    0x01 ∷ 0x31 ∷ 0x12 ∷ 0x3d ∷ 5 ∷ 0 ∷ 0 ∷ 0
    ∷ 0x01 ∷ 0x31 ∷ 0x12 ∷ 0x03 ∷ 2 ∷ 0 ∷ 0 ∷ 0
    ∷ 0 ∷ 0 ∷ 0 ∷ 0
    ∷ 0x01 ∷ 0x31 ∷ 0x12 ∷ 0x3e ∷ 4 ∷ 0 ∷ 0 ∷ 0
    ∷ []

-- a row without socket, die and flags: level, parent row, offset, held, declared, version word; every header here has 8 bytes
abbrev row : ℕ → ℕ → ℕ → ℕ → ℕ → ℕ → Span
row level parent offset held declared word =
    record { level = level; parent = parent; offset = offset; held = held; declared = declared; size = 8; word = word; socket = 0; die = no_die; flags = 0 }

-- the row of a Punit record of 8 bytes, alone at the start
abbrev row_first : Span
row_first = row 0 top 0 8 8 0x03123101

-- the rows of the dump input
abbrev row_box : Span
row_box = row 0 top 0 20 20 0x3d123101

abbrev row_punit : Span
row_punit = row 1 0 8 8 8 0x03123101

abbrev row_mca : Span
row_mca = row 0 top 20 8 16 0x3e123101

-- a row of a Box of P10 at a level
abbrev row_of_box : ℕ → ℕ → ℕ → ℕ → Span
row_of_box level parent offset size = row level parent offset size size 0x3d123101

-- C-14: a record of 8 bytes, and bytes inside so many Boxes, one in the other; sizes are in bytes
abbrev small : List ℕ
small = punit 0x31 8

abbrev nest : ℕ → List ℕ → List ℕ
nest zero payload = payload
nest (suc n) payload = let inner = nest n payload in box (8 + length inner) ++ inner

-- a region that stops at these bytes after a record: the top one, one in a Box, and one in the last of four Boxes
abbrev stopping : List ℕ → Bool → List Example
stopping tail whole = marks (small ++ tail) 0 whole ∷ marks (nest 1 (small ++ tail)) 0 whole ∷ marks (nest 4 (small ++ tail)) 0 whole ∷ []

-- a Box that declares 7 of its header's 8 bytes, before a zero word
abbrev thin : List ℕ
thin = box 7 ++ zeros

-- C-17: a record of 32 bytes, with its size where either kind of header has it, 0x24 at byte 24, 0x25 at byte 25, and one status word for type 6
abbrev marked : ℕ → ℕ → List ℕ
marked type revision = (revision ∷ type ∷ 0x12 ∷ 0x03 ∷ 8 ∷ replicate 11 0) ++ (8 ∷ replicate 7 0) ++ (0x24 ∷ 0x25 ∷ 1 ∷ replicate 5 0)

-- ---- the table

abbrev pub examples : List Example
examples =
    -- P1 to P3
    lists [] 9 9 5 0 0 0 false 1 []
    ∷ lists (1 ∷ 2 ∷ 3 ∷ []) 9 9 5 0 0 1 false 4 []
    ∷ lists deadbeef 9 9 5 0 0 1 false 3 []
    -- P4 to P6
    ∷ lists (take 5 (punit 0x31 2)) 9 9 3 0 0 1 false 5 []
    ∷ lists (punit 0x37 2) 9 9 4 7 0 1 false 5 []
    ∷ lists (punit 0x31 0) 9 9 5 0 0 1 false 6 []
    -- P7
    ∷ lists (punit 0x31 2 ++ punit 0x37 2) 9 9 0 0 1 2 false 5 (row_first ∷ [])
    -- P8
    ∷ die 0x83 12
    ∷ die 0x03 12
    ∷ die 0x81 10
    ∷ die 0x02 8
    -- P9
    ∷ half 0xffff 127 true 536
    ∷ half 0xff80 0 true 28
    -- P10
    ∷ lists boxes 9 9 0 0 5 5 true 1
    (row_of_box 0 top 0 48 ∷ row_of_box 1 0 8 40 ∷ row_of_box 2 1 16 32 ∷ row_of_box 3 2 24 24 ∷ row_of_box 4 3 32 16 ∷ [])
    -- P11
    ∷ lists dumped 2 9 7 0 2 2 false 0 (row_box ∷ row_punit ∷ [])
    ∷ lists dumped 9 1 6 0 1 2 false 0 (row_box ∷ [])
    -- P12
    ∷ lists dumped 81920 512 0 0 3 4 false 1 (row_box ∷ row_punit ∷ row_mca ∷ [])
    -- C-12: after a record, at each reason but the bad header of P7; the last stops at the end of its input, and its Box at a zero word
    ∷ lists (punit 0x31 2) 9 9 0 0 1 1 true 1 (row_first ∷ [])
    ∷ lists (punit 0x31 2 ++ zeros) 9 9 0 0 1 2 true 2 (row_first ∷ [])
    ∷ lists (punit 0x31 2 ++ deadbeef) 9 9 0 0 1 2 true 3 (row_first ∷ [])
    ∷ lists (punit 0x31 2 ++ (1 ∷ 2 ∷ 3 ∷ [])) 9 9 0 0 1 2 false 4 (row_first ∷ [])
    ∷ lists (punit 0x31 2 ++ punit 0x31 0) 9 9 0 0 1 2 false 6 (row_first ∷ [])
    ∷ lists (box 3 ++ zeros) 9 9 0 0 1 2 true 1 (row_of_box 0 top 0 12 ∷ [])
    -- C-12: a decode at each ending
    ∷ ends zeros 2
    ∷ ends deadbeef 3
    ∷ ends (1 ∷ 2 ∷ 3 ∷ []) 4
    ∷ ends [] 4
    -- C-14: a clean stop without a record; a row that holds less than it declares, at the top and in a Box
    ∷ marks zeros 5 false
    ∷ marks (punit 0x31 9) 0 false
    ∷ marks (nest 1 (punit 0x31 9)) 0 false
    -- C-14: a Box that holds no more than its header is opened; one that holds less is not, which on level 4 is no matter; nor is what stands inside it
    ∷ marks (box 8) 0 true
    ∷ marks thin 0 false
    ∷ marks (nest 1 thin) 0 false
    ∷ marks (nest 3 thin) 0 false
    ∷ marks (nest 4 thin) 0 true
    ∷ marks (nest 5 (punit 0x37 8)) 0 true
    -- C-14: where regions stop
    ∷ (stopping [] true
    ++ (stopping zeros true
    ++ (stopping deadbeef true
    ++ (stopping (1 ∷ 2 ∷ 3 ∷ []) false
    ++ (stopping (take 5 small) false
    ++ (stopping (punit 0x37 8) false
    ++ (stopping (punit 0x31 0) false
    -- C-17: by the header type, by flag 1 and the revision, by flag 2; flag 1 comes first, whatever the type
    ++ (names 0 1 0 0 no_die
    ∷ names 1 1 0 0 no_die
    ∷ names 2 1 0 0 no_die
    ∷ names 3 1 0 0 no_die
    ∷ names 4 1 0 0 no_die
    ∷ names 5 1 0 0 no_die
    ∷ names 6 1 0 0x25 0x24
    ∷ names 6 1 4 0x25 0x24
    ∷ names 0 0x83 1 0x24 12
    ∷ names 0 0x03 1 0x24 12
    ∷ names 0 0x81 1 0x24 10
    ∷ names 0 0x02 1 0x24 8
    ∷ names 0 0x7c 1 0x24 0
    ∷ names 0 0xfc 1 0x24 9
    ∷ names 6 0x02 1 0x24 8
    ∷ names 7 0x02 3 0x24 8
    ∷ names 0 0x02 2 0 no_die
    ∷ names 6 0x02 2 0 no_die
    ∷ []))))))))

-- ---- what the definitions say of an example

abbrev bit : Bool → ℕ
bit true = 1
bit false = 0

abbrev die_number : Option ℕ → List ℕ
die_number (Some d) = d ∷ []
die_number None = []

-- count and complete of a type 6 header
abbrev half_in : HeaderType → List ℕ
half_in (Type6 stamp d k n c) = n ∷ bit c ∷ []
half_in Type0 = []
half_in Type1 = []
half_in (Type2 stamp) = []
half_in (Type3 stamp status) = []
half_in (Type4 stamp w m) = []
half_in (Type5 stamp status e) = []
half_in (Type0LegacyServer stamp d k status) = []
half_in (Type0LegacyGpu stamp status) = []

-- a rule that gives every record flags; with 1 every header is a legacy server's
abbrev always : ℕ → List ℕ
always flags = 0 ∷ 0 ∷ flags ∷ []

-- a header of 32 bytes with a revision, and one of type 6 with a halfword
abbrev revised : ℕ → List ℕ
revised revision = revision ∷ replicate 31 0

abbrev counted : ℕ → List ℕ
counted word = (0x01 ∷ 0x36 ∷ 0x12 ∷ 0x03 ∷ replicate 22 0) ++ (word % 256 ∷ word / 256 ∷ replicate 508 0)

-- a decode: its answer, and how the records end or what is told of a header
abbrev told : (Decoded → List ℕ) → Result Decoded Refusal → List ℕ
told say (Ok d) = done ∷ say d
told say (Err refusal) = number_of refusal ∷ ending_told refusal ∷ []

unfoldable pub computed : Example → List ℕ
computed (lists bytes limit room answer type rows tries whole stop spans) =
    let end = listed [] bytes limit (replicate (room * width) 0) in
    listing_number end.1.answer ∷ type_of end.1.answer ∷ end.1.rows ∷ end.1.tries ∷ bit end.1.whole ∷ stop_number end.1.stop
    ∷ take (end.1.rows * width) end.0
computed (marks bytes answer whole) =
    let end = listed (always 8) bytes 9 (replicate (9 * width) 0) in
    listing_number end.1.answer ∷ bit end.1.whole ∷ []
computed (ends bytes ending) = told (λ d. []) (decoded_of [] bytes)
computed (die revision id) = told (λ d. die_number (die_of d.header.header_type)) (decoded_of (always 1) (revised revision))
computed (names type revision flags socket id) =
    let end = listed (always flags) (marked type revision) 9 (replicate (9 * width) 0) in
    let first = span_at end.0 0 in
    listing_number end.1.answer ∷ first.socket ∷ first.die ∷ first.flags ∷ []
computed (half word count complete size) = told (λ d. d.header_size ∷ half_in d.header.header_type) (decoded_of [] (counted word))

-- what the documents say of it
abbrev pub stated : Example → List ℕ
stated (lists bytes limit room answer type rows tries whole stop spans) = answer ∷ type ∷ rows ∷ tries ∷ bit whole ∷ stop ∷ flat spans
stated (marks bytes answer whole) = answer ∷ bit whole ∷ []
stated (ends bytes ending) = ended ∷ ending ∷ []
stated (die revision id) = 0 ∷ id ∷ []
stated (names type revision flags socket id) = 0 ∷ socket ∷ id ∷ flags ∷ []
stated (half word count complete size) = 0 ∷ size ∷ count ∷ bit complete ∷ []
