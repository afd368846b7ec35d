-- What the dump program prints (document 01, 'Checked examples').
use Rattle.std.specs.Prelude.{ℕ, ◌*◌, Bool, cond, List, [], ◌∷◌, ◌++◌, eqb, ltb, length, replicate, decimal}
use Rattle.std.specs.List.{flat_map}
use Prim.Native.String.{String}
use Rattle.header_judge.specs.Head.{no_die}
use Rattle.header_judge.specs.Version.{record_type}
use Rattle.region_rows.specs.declared.Span.{Span}
use Rattle.region_rows.specs.Rows.{width, spans_in}
use Rattle.region_try.specs.Stops.{Standing}
use Rattle.region_try.specs.Tries.{Try}
use Rattle.region.specs.declared.Answer.TheVariants.{TooLong}
use Rattle.region.specs.declared.Listing.{Listing}
use Rattle.region.specs.Listing.{Shown, number_of, refusal, tries_listing, listed}
use Rattle.names.specs.Ascii.{ascii}
use Rattle.names.specs.Names.{text_of}
use Rattle.text.specs.Number.{hex}

-- ---- the lines

abbrev pub heading : List ℕ
heading = ascii "level offset held declared header version socket die name\n"

-- a number and the space after it
abbrev pub column : ℕ → List ℕ
column n = decimal n ++ ascii " "

-- a version word and the space after it
abbrev pub version_column : ℕ → List ℕ
version_column word = hex word ++ ascii " "

-- a die, or a dash for none, and the space after it
abbrev pub die_column : ℕ → List ℕ
die_column die = cond (eqb die no_die) (ascii "- ") (column die)

-- a row's line
unfoldable pub row_line : Span → List ℕ
row_line r =
    flat_map column (r.level ∷ r.offset ∷ r.held ∷ r.declared ∷ r.size ∷ [])
    ++ version_column r.word ++ column r.socket ++ die_column r.die
    ++ text_of (record_type r.word) ++ ascii "\n"

-- the lines of some rows
abbrev pub lines : List Span → List ℕ
lines rs = flat_map row_line rs

abbrev pub yes_no : Bool → List ℕ
yes_no b = cond b (ascii "yes") (ascii "no")

-- a text and a number
abbrev pub count : String → ℕ → List ℕ
count text n = ascii text ++ decimal n

-- the last line
unfoldable pub last_line : Listing → List ℕ
last_line l =
    count "rows " l.rows ++ count " tries " l.tries ++ ascii " whole " ++ yes_no l.whole
    ++ count " answer " (number_of l.answer) ++ ascii "\n"

-- ---- the text

-- the longest input
abbrev pub most_input : ℕ
most_input = 65535

abbrev pub most_tries : ℕ
most_tries = 81920

-- the listing with no rules, into a table
unfoldable pub listing : List ℕ → List ℕ → List ℕ × Listing
listing region t = cond (ltb most_input (length region)) (t, refusal TooLong) (listed [] region most_tries t)

-- the heading, the rows and the last line of a table and its listing
unfoldable pub text_of_listing : List ℕ × Listing → List ℕ
text_of_listing x = heading ++ lines (spans_in x.0 x.1.rows) ++ last_line x.1

-- a table with room for so many rows
unfoldable pub empty_table : ℕ → List ℕ
empty_table rows = replicate (rows * width) 0

-- the rows that a dump has room for
abbrev pub most_rows : ℕ
most_rows = 512

-- the text of a region
unfoldable pub dump_text : List ℕ → List ℕ
dump_text region = text_of_listing (listing region (empty_table most_rows))

-- the text of what a listing shows of some tries; this stands where the top region stops
abbrev pub shown_text : Standing → List Try → Shown → List ℕ
shown_text standing tries s = heading ++ lines s.rows ++ last_line (tries_listing standing tries s)
