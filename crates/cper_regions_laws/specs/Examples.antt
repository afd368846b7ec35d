-- Listings of a CPER of six sections (document 02, C-15), as one table.
use Rattle.std.specs.Prelude.{ℕ, ◌*◌, ◌/◌, ◌%◌, Bool, true, false, List, [], ◌∷◌, ◌++◌, length, take, replicate}
use Rattle.header_judge.specs.Version.{bit}
use Rattle.header_judge.specs.Head.{no_die}
use Rattle.region_rows.specs.declared.Span.{Span}
use Rattle.region_rows.specs.Rows.{width, top, flat}
use Rattle.region.specs.Listing.{number_of, listing_told}
use Rattle.cper_fields.specs.Fields.{zeros}
use Rattle.cper_header.specs.Record.{signature}
use Rattle.cper_regions.specs.Regions.{firmware_error_record, crash_log_id}
use Rattle.cper_regions.specs.Listing.{cper_listed}

-- a listing under a limit, into so many rows: answer, tries, `whole`, and the rows
pub record Example : Type 0 where
  pub rules : List ℕ
  pub bytes : List ℕ
  pub limit : ℕ
  pub room : ℕ
  pub answer : ℕ
  pub tries : ℕ
  pub whole : Bool
  pub spans : List Span

-- ---- the file

-- a record of 8 bytes that declares so many words
abbrev record8 : ℕ → ℕ → ℕ → List ℕ
record8 type kind words = 0x01 ∷ type ∷ 0x12 ∷ kind ∷ words ∷ 0 ∷ 0 ∷ 0 ∷ []

-- a descriptor of a section at an offset below 65,536
abbrev descriptor : ℕ → ℕ → List ℕ → List ℕ
descriptor offset size type = offset % 256 ∷ offset / 256 ∷ 0 ∷ 0 ∷ size ∷ 0 ∷ 0 ∷ 0 ∷ (zeros 8 ++ type ++ zeros 40)

-- Opened are three sections: the first, with a Box; the fifth, with the dump input of document 01, whose last record declares so many words; and the last,
-- of so many bytes inside the fifth. The others have another identifier, 31 bytes, another type. All records have one header type: 0x31, or 0x37, a bad one
abbrev file : ℕ → ℕ → ℕ → List ℕ
file type words last =
    (signature ++ (0 ∷ 0 ∷ 255 ∷ 255 ∷ 255 ∷ 255 ∷ 6 ∷ 0 ∷ zeros 116))
    ++ descriptor 560 48 firmware_error_record
    ++ descriptor 608 40 firmware_error_record
    ++ descriptor 560 31 firmware_error_record
    ++ descriptor 560 40 (zeros 16)
    ++ descriptor 648 60 firmware_error_record
    ++ descriptor 648 last firmware_error_record
    ++ (zeros 16 ++ crash_log_id ++ record8 type 0x3d 4 ++ record8 type 0x03 2)
    ++ (zeros 32 ++ record8 type 0x03 2)
    ++ (zeros 16 ++ crash_log_id ++ record8 type 0x3d 5 ++ record8 type 0x03 2 ++ zeros 4 ++ record8 type 0x3e words)

-- a row without socket, die and flags: level, parent row, offset, held, declared, version word; every header here has 8 bytes
abbrev row : ℕ → ℕ → ℕ → ℕ → ℕ → ℕ → Span
row level parent offset held declared word =
    record { level = level; parent = parent; offset = offset; held = held; declared = declared; size = 8; word = word; socket = 0; die = no_die; flags = 0 }

-- the rows of the first section, and of the fifth
abbrev box1 : Span
box1 = row 0 top 592 16 16 0x3d123101

abbrev punit1 : Span
punit1 = row 1 0 600 8 8 0x03123101

abbrev box5 : Span
box5 = row 0 top 680 20 20 0x3d123101

abbrev punit5 : Span
punit5 = row 1 2 688 8 8 0x03123101

abbrev mca5 : ℕ → Span
mca5 declared = row 0 top 700 8 declared 0x3e123101

-- ---- the table

-- with no rules
abbrev lists : List ℕ → ℕ → ℕ → ℕ → ℕ → Bool → List Span → Example
lists bytes limit room answer tries whole spans =
    record { rules = []; bytes = bytes; limit = limit; room = room; answer = answer; tries = tries; whole = whole; spans = spans }

abbrev pub examples : List Example
examples =
    -- all tries and all rows, with limit and room to spare, and with just enough
    lists (file 0x31 4 32) 100 16 0 6 false (box1 ∷ punit1 ∷ box5 ∷ punit5 ∷ mca5 16 ∷ [])
    ∷ lists (file 0x31 4 32) 6 5 0 6 false (box1 ∷ punit1 ∷ box5 ∷ punit5 ∷ mca5 16 ∷ [])
    -- cut off by the limit, and by the room
    ∷ lists (file 0x31 4 32) 4 16 7 4 false (box1 ∷ punit1 ∷ box5 ∷ punit5 ∷ [])
    ∷ lists (file 0x31 4 32) 0 16 7 0 false []
    ∷ lists (file 0x31 4 32) 100 3 6 4 false (box1 ∷ punit1 ∷ box5 ∷ [])
    ∷ lists (file 0x31 4 32) 100 0 6 1 false []
    -- whole, and no longer so where a region without a record has three bytes
    ∷ lists (file 0x31 2 32) 100 16 0 6 true (box1 ∷ punit1 ∷ box5 ∷ punit5 ∷ mca5 8 ∷ [])
    ∷ lists (file 0x31 2 35) 100 16 0 7 false (box1 ∷ punit1 ∷ box5 ∷ punit5 ∷ mca5 8 ∷ [])
    -- no region holds a record: each is tried; and no section is kept
    ∷ lists (file 0x37 4 35) 3 0 5 3 false []
    ∷ lists (take 560 (file 0x31 4 32)) 0 16 5 0 false []
    -- no whole header, and before that no valid rules
    ∷ lists (take 127 (file 0x31 4 32)) 100 16 8 0 false []
    ∷ record { rules = 0 ∷ []; bytes = take 127 (file 0x31 4 32); limit = 100; room = 16; answer = 2; tries = 0; whole = false; spans = [] }
    ∷ []

-- what the definitions say of an example
unfoldable pub computed : Example → List ℕ
computed x =
    let end = cper_listed x.rules x.bytes crash_log_id x.limit (replicate (x.room * width) 0) in
    (number_of end.1.answer ∷ listing_told end.1) ++ take (end.1.rows * width) end.0

-- what is stated of it; no bad type and no stop reason is told
abbrev pub stated : Example → List ℕ
stated x = x.answer ∷ length x.spans ∷ x.tries ∷ 0 ∷ bit x.whole ∷ 0 ∷ flat x.spans
