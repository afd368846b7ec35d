-- A normal descriptor, written, is read as it was.
-- Field by field. Assumes nothing.
use mathlib.Core.Path.{◌≡◌, refl}
use mathlib.Core.List.{List, ◌++◌, append_assoc}
use mathlib.Core.Bool.{Bool, true, false}
use Prim.Native.Nat.{ℕ, ◌+◌, ◌^◌, ◌≤◌, ◌<◌}
use native.Mathlib.Omega.{arith}
use lib.ListN.{length, get_or}
use Rattle.std.specs.Prelude.{is_some}
use Rattle.basics.specs.Bits.{has}
use Rattle.le.specs.Le.{le}
use Rattle.le.proofs.Laws.{le_lt}
use Rattle.layout.specs.Fields.{digits}
use Rattle.cper_fields.specs.Fields.{number_if, part, zeros, present, severity_number}
use Rattle.cper_descr.specs.Descriptor.{descriptor_size, fru_id_bit, fru_text_bit, descriptor_of, moved, bits_of, normal_descriptor, descriptor_bytes}
use Rattle.cper_descr.specs.declared.CperSectionDescriptor.{CperSectionDescriptor}
use Rattle.cper_fields.proofs.Lengths.{length_part, length-present}
use Rattle.cper_laws.proofs.SeverityAgain.{severity_again, severity_small}
use Rattle.cper_laws.proofs.Reading.{From, past, past_number, read_number, read_bytes, read_field}

fru_bits : (a b : Bool) → (has (number_if a fru_id_bit + number_if b fru_text_bit) fru_id_bit ≡ a) × (has (number_if a fru_id_bit + number_if b fru_text_bit) fru_text_bit ≡ b) × (number_if a fru_id_bit + number_if b fru_text_bit < 256 ^ 1)
fru_bits true true = (refl, refl, omega arith)
fru_bits true false = (refl, refl, omega arith)
fru_bits false true = (refl, refl, omega arith)
fru_bits false false = (refl, refl, omega arith)

-- a descriptor whose numbers fit their fields, and whose validation number tells its fields
pub record Plain (d : CperSectionDescriptor) : Type 0 where
  pub offset : d.section_offset < 256 ^ 4
  pub size : d.section_length < 256 ^ 4
  pub revision : d.revision < 256 ^ 2
  pub flags : d.flags < 256 ^ 4
  pub bits : d.validation_bits ≡ bits_of d
  pub type : length d.section_type ≡ 16
  pub fru : length (present 16 d.fru_id) ≡ 16
  pub text : length (present 20 d.fru_text) ≡ 20

descriptor_from : (d : CperSectionDescriptor) → Plain d → (bs rest : List ℕ)
    → From bs 0
    (digits 4 d.section_offset
    ++ (digits 4 d.section_length
    ++ (digits 2 d.revision
    ++ (digits 1 d.validation_bits
    ++ (zeros 1
    ++ (digits 4 d.flags
    ++ (d.section_type
    ++ (present 16 d.fru_id
    ++ (digits 4 (severity_number d.section_severity) ++ (present 20 d.fru_text ++ rest))))))))))
    → descriptor_of bs ≡ d
unfolding descriptor_of
descriptor_from d p bs rest from =
    let b = fru_bits (is_some d.fru_id) (is_some d.fru_text) in
    let bits_small : d.validation_bits < 256 ^ 1 = rw p.bits b.2 in
    let size = past_number 4 d.section_offset _ from in
    let revision = past_number 4 d.section_length _ size in
    let bits = past_number 2 d.revision _ revision in
    let reserved = past_number 1 d.validation_bits _ bits in
    let flags = past 1 (zeros 1) _ refl reserved in
    let type = past_number 4 d.flags _ flags in
    let fru = past 16 d.section_type _ p.type type in
    let severity = past 16 (present 16 d.fru_id) _ p.fru fru in
    let text = past_number 4 (severity_number d.section_severity) _ severity in
    let has-fru : has d.validation_bits fru_id_bit ≡ is_some d.fru_id = rw p.bits b.0 in
    let has-text : has d.validation_bits fru_text_bit ≡ is_some d.fru_text = rw p.bits b.1 in
    rw (
      read_number 4 d.section_offset _ p.offset from,
      read_number 4 d.section_length _ p.size size,
      read_number 2 d.revision _ p.revision revision,
      read_number 1 d.validation_bits _ bits_small bits,
      read_number 4 d.flags _ p.flags flags,
      read_bytes 16 d.section_type _ p.type type,
      read_number 4 (severity_number d.section_severity) _ (severity_small d.section_severity) severity,
      severity_again d.section_severity,
      has-fru,
      has-text,
      read_field 16 d.fru_id _ p.fru fru,
      read_field 20 d.fru_text _ p.text text,
    )

-- such a descriptor, written, is read as it was
pub descriptor_again : (d : CperSectionDescriptor) → Plain d → (rest : List ℕ) → descriptor_of (descriptor_bytes d ++ rest) ≡ d
unfolding descriptor_bytes
descriptor_again d p rest = descriptor_from d p (descriptor_bytes d ++ rest) rest (record { is = simp append_assoc })

-- the normal form of what was read is such a descriptor
pub descriptor_plain : (bs : List ℕ) → ((k : ℕ) → get_or bs k 0 < 256) → descriptor_size ≤ length bs → (to : ℕ) → to < 256 ^ 4 → Plain (normal_descriptor (moved to (descriptor_of bs)))
unfolding descriptor_of
descriptor_plain bs bytes whole to small =
    let v = le 1 bs 10 in
    record {
      offset = small;
      size = le_lt bs bytes 4 4;
      revision = le_lt bs bytes 8 2;
      flags = le_lt bs bytes 12 4;
      bits = refl;
      type = length_part bs 16 16 (omega arith);
      fru = length-present (has v fru_id_bit) 16 (part bs 32 16) (length_part bs 32 16 (omega arith));
      text = length-present (has v fru_text_bit) 20 (part bs 52 20) (length_part bs 52 20 (omega arith));
    }
