-- The kept sections of a CPER (document 01, 'CPER'): as a list, as a table of rows, and one by its row number.
use Rattle.std.specs.Prelude.{ℕ, zero, suc, ◌+◌, ◌*◌, ◌/◌, List, [], ◌∷◌, ◌++◌, Bool, cond, ◌&&◌, leb, length, take, drop, slice_get, Option, Some, None, Result, Ok, Err}
use Rattle.le.specs.Le.{le}
use Rattle.cper_header.specs.Record.{header_size, count_of}
use Rattle.cper_descr.specs.Descriptor.{descriptor_size, offset_at, length_at}
use Rattle.cper_sections.specs.Answers.{checked}
use Rattle.cper_sections.specs.declared.Place.{Place}
use Rattle.cper_sections.specs.declared.Refusal.{Refusal}
use Rattle.cper_sections.specs.declared.Refusal.TheVariants.{SectionsFull, NoSection}
use Rattle.cper_sections.specs.declared.kept.Section.{Section}

-- ---- which sections are kept

-- where the descriptor with an index stands
abbrev pub descriptor_at : ℕ → ℕ
descriptor_at i = header_size + descriptor_size * i

-- the section that a descriptor tells
abbrev pub told : List ℕ → ℕ → Section
told cper i = record { index = i; offset = le 4 cper (descriptor_at i + offset_at); size = le 4 cper (descriptor_at i + length_at) }

-- do its descriptor's bytes and its whole body lie in the input?
abbrev pub keeps : List ℕ → ℕ → Bool
keeps cper i = leb (descriptor_at i + descriptor_size) (length cper) && leb ((told cper i).offset + (told cper i).size) (length cper)

-- the kept ones of `n` descriptors from the one at index `i` on
unfoldable pub kept_from : List ℕ → ℕ → ℕ → List Section
kept_from cper i zero = []
kept_from cper i (suc n) = cond (keeps cper i) (told cper i ∷ kept_from cper (suc i) n) (kept_from cper (suc i) n)

-- the kept sections
unfoldable pub kept_of : List ℕ → List Section
kept_of cper = kept_from cper 0 (count_of cper)

-- a section's body
abbrev pub body_of : List ℕ → Section → List ℕ
body_of cper k = take k.size (drop k.offset cper)

-- ---- the section table

-- a row: so many numbers
abbrev pub section_numbers : ℕ
section_numbers = 3

abbrev pub row_of : Section → List ℕ
row_of k = k.index ∷ k.offset ∷ k.size ∷ []

-- the sections' rows, one after the other
unfoldable pub section_rows : List Section → List ℕ
section_rows [] = []
section_rows (k ∷ ks) = row_of k ++ section_rows ks

-- as many rows as the table has room for; the table, and how many rows it has
unfoldable pub listed_in : List ℕ → List Section → List ℕ × Result ℕ Refusal
listed_in table ks =
    let room = length table / section_numbers in
    let written = take room ks in
    let rows = length written in
    (section_rows written ++ drop (section_numbers * rows) table, cond (leb (length ks) room) (Ok rows) (Err (SectionsFull rows)))

-- the table after the call, which another refusal leaves as it is, and what is told
unfoldable pub sections_of : List ℕ → List ℕ → List ℕ × Result ℕ Refusal
sections_of cper table = checked cper (λ refusal. (table, Err refusal)) (listed_in table (kept_of cper))

-- ---- one section

-- where the body of a section is, if there is the section
abbrev pub place_at : Option Section → Result Place Refusal
place_at None = Err NoSection
place_at (Some k) = Ok (record { offset = k.offset; length = k.size })

-- where the section with a row number has its body
unfoldable pub place_in : List Section → ℕ → Result Place Refusal
place_in ks row = place_at (slice_get ks row)

unfoldable pub place_of : List ℕ → ℕ → Result Place Refusal
place_of cper row = checked cper Err (place_in (kept_of cper) row)

-- the part of the input at a place; none with a refusal
abbrev pub part_at : List ℕ → Result Place Refusal → List ℕ
part_at cper (Ok place) = take place.length (drop place.offset cper)
part_at cper (Err _) = []
