-- The CPER section descriptor (document 01, 'CPER'; UEFI N.2.2): what is read of it, its normal form, and its bytes.
use Rattle.std.specs.Prelude.{ℕ, ◌+◌, List, ◌++◌, is_some}
use Rattle.std.specs.Bool.{then_some}
use Rattle.basics.specs.Bits.{has}
use Rattle.le.specs.Le.{le}
use Rattle.layout.specs.Fields.{digits}
use Rattle.cper_fields.specs.Fields.{number_if, part, zeros, present, severity_of, severity_number}
use Rattle.cper_descr.specs.declared.CperSectionDescriptor.{CperSectionDescriptor}

-- the bytes of a descriptor
abbrev pub descriptor_size : ℕ
descriptor_size = 72

-- where a body's offset and length stand
abbrev pub offset_at : ℕ
offset_at = 0

abbrev pub length_at : ℕ
length_at = 4

-- and where its section's type does
abbrev pub type_at : ℕ
type_at = 16

-- the validation bits
abbrev pub fru_id_bit : ℕ
fru_id_bit = 1

abbrev pub fru_text_bit : ℕ
fru_text_bit = 2

-- what some bytes tell; a field whose bit is not set is absent
unfoldable pub descriptor_of : List ℕ → CperSectionDescriptor
descriptor_of bs =
    let bits = le 1 bs 10 in
    record {
      section_offset = le 4 bs offset_at;
      section_length = le 4 bs length_at;
      revision = le 2 bs 8;
      validation_bits = bits;
      flags = le 4 bs 12;
      section_type = part bs type_at 16;
      fru_id = then_some (has bits fru_id_bit) (part bs 32 16);
      section_severity = severity_of (le 4 bs 48);
      fru_text = then_some (has bits fru_text_bit) (part bs 52 20);
    }

-- the descriptor with another offset and validation number
abbrev pub changed : ℕ → ℕ → CperSectionDescriptor → CperSectionDescriptor
changed offset bits d =
    record {
      section_offset = offset;
      section_length = d.section_length;
      revision = d.revision;
      validation_bits = bits;
      flags = d.flags;
      section_type = d.section_type;
      fru_id = d.fru_id;
      section_severity = d.section_severity;
      fru_text = d.fru_text;
    }

-- the descriptor of a section whose body is at an offset
abbrev pub moved : ℕ → CperSectionDescriptor → CperSectionDescriptor
moved offset d = changed offset d.validation_bits d

-- the bits of the fields that are present
abbrev pub bits_of : CperSectionDescriptor → ℕ
bits_of d = number_if (is_some d.fru_id) fru_id_bit + number_if (is_some d.fru_text) fru_text_bit

-- the validation number tells the fields that are present, and nothing else
abbrev pub normal_descriptor : CperSectionDescriptor → CperSectionDescriptor
normal_descriptor d = changed d.section_offset (bits_of d) d

-- the numbers before the section type, and their bytes
abbrev pub start_size : ℕ
start_size = 16

abbrev pub start_bytes : ℕ → ℕ → ℕ → ℕ → ℕ → List ℕ
start_bytes offset size revision bits flags =
    digits 4 offset ++ digits 4 size ++ digits 2 revision ++ digits 1 bits ++ zeros 1 ++ digits 4 flags

-- the 72 bytes
unfoldable pub descriptor_bytes : CperSectionDescriptor → List ℕ
descriptor_bytes d =
    digits 4 d.section_offset
    ++ digits 4 d.section_length
    ++ digits 2 d.revision
    ++ digits 1 d.validation_bits
    ++ zeros 1
    ++ digits 4 d.flags
    ++ d.section_type
    ++ present 16 d.fru_id
    ++ digits 4 (severity_number d.section_severity)
    ++ present 20 d.fru_text
