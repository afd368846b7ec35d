-- The regions in a CPER (document 02, C-15): of each kept Firmware Error Record section (UEFI N.2.10) that has the identifier asked for, the bytes after its header.
use Rattle.std.specs.Prelude.{ℕ, ◌+◌, List, [], ◌∷◌, Bool, cond, ◌&&◌, leb, drop}
use Rattle.cper_header.specs.Record.{starts_with}
use Rattle.cper_descr.specs.Descriptor.{type_at}
use Rattle.cper_sections.specs.Sections.{descriptor_at, kept_of, body_of}
use Rattle.cper_sections.specs.declared.kept.Section.{Section}

-- ---- which sections are opened

-- the type of a Firmware Error Record section, 81212a96-09ed-4996-9471-8d729c8e69ed, as a file has it
abbrev pub firmware_error_record : List ℕ
firmware_error_record =
    0x96 ∷ 0x2A ∷ 0x21 ∷ 0x81 ∷ 0xED ∷ 0x09 ∷ 0x96 ∷ 0x49 ∷ 0x94 ∷ 0x71 ∷ 0x8D ∷ 0x72 ∷ 0x9C ∷ 0x8E ∷ 0x69 ∷ 0xED ∷ []

-- the identifier of a Crash Log, 8f87f311-c998-4d9e-a0c4-6065518c4f6d, as a file has it
abbrev pub crash_log_id : List ℕ
crash_log_id =
    0x11 ∷ 0xF3 ∷ 0x87 ∷ 0x8F ∷ 0x98 ∷ 0xC9 ∷ 0x9E ∷ 0x4D ∷ 0xA0 ∷ 0xC4 ∷ 0x60 ∷ 0x65 ∷ 0x51 ∷ 0x8C ∷ 0x4F ∷ 0x6D ∷ []

-- the bytes of the header that such a section starts with, and where the identifier stands in it
abbrev pub section_header : ℕ
section_header = 32

abbrev pub identifier_at : ℕ
identifier_at = 16

-- is a section of that type?
abbrev pub is_firmware_error : List ℕ → Section → Bool
is_firmware_error cper k = starts_with firmware_error_record (drop (descriptor_at k.index + type_at) cper)

-- does its body have a whole header with the identifier?
abbrev pub is_identified : List ℕ → List ℕ → Section → Bool
is_identified cper id k = leb section_header k.size && starts_with id (drop identifier_at (body_of cper k))

abbrev pub is_opened : List ℕ → List ℕ → Section → Bool
is_opened cper id k = is_firmware_error cper k && is_identified cper id k

-- ---- the regions

-- a region of a file: where it starts, and its bytes
pub record Region : Type 0 where
  pub offset : ℕ
  pub bytes : List ℕ

-- what follows a section's header
abbrev pub region_of : List ℕ → Section → Region
region_of cper k = record { offset = k.offset + section_header; bytes = drop section_header (body_of cper k) }

-- the regions of some sections
unfoldable pub regions_in : List ℕ → List ℕ → List Section → List Region
regions_in cper id [] = []
regions_in cper id (k ∷ ks) = cond (is_opened cper id k) (region_of cper k ∷ regions_in cper id ks) (regions_in cper id ks)

-- all of a CPER, in the order of their descriptors
unfoldable pub regions_of : List ℕ → List ℕ → List Region
regions_of cper id = regions_in cper id (kept_of cper)
