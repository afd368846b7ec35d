-- Where the regions of a CPER lie in it, and which sections have one (document 02, C-15).
use Rattle.std.specs.Prelude.{ℕ, ◌+◌, ◌≤◌, ◌≡◌, List, length}
use Rattle.cper_fields.specs.Fields.{part}
use Rattle.cper_descr.specs.Descriptor.{type_at}
use Rattle.cper_sections.specs.Sections.{descriptor_at, body_of}
use Rattle.cper_sections.specs.declared.kept.Section.{Section}
use Rattle.cper_regions.specs.Regions.{firmware_error_record, section_header, identifier_at, Region}

-- a region is the file's bytes from its offset on
pub record Lies (cper : List ℕ) (g : Region) : Type 0 where
  pub inside : g.offset + length g.bytes ≤ length cper
  pub is : g.bytes ≡ part cper g.offset (length g.bytes)

-- the bytes of a GUID
abbrev pub guid_size : ℕ
guid_size = 16

-- a section of the type, with a whole header that has the identifier
pub record Named (cper id : List ℕ) (k : Section) : Type 0 where
  pub type : part cper (descriptor_at k.index + type_at) guid_size ≡ firmware_error_record
  pub long : section_header ≤ k.size
  pub identifier : part (body_of cper k) identifier_at guid_size ≡ id
