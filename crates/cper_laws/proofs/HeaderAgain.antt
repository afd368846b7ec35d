-- A normal header, written, is a header with both signatures, and is read as it was.
-- Field by field. Assumes nothing.
use mathlib.Core.Path.{◌≡◌, refl, sym, ap, ◌∙◌}
use mathlib.Core.List.{List, ◌++◌, append_assoc}
use mathlib.Core.Bool.{Bool, true, false}
use Prim.Native.Nat.{ℕ, ◌+◌, ◌%◌, ◌^◌, ◌≤◌, ◌<◌}
use native.Mathlib.Nat.{add-zero}
use native.Mathlib.Omega.{arith}
use lib.Dec.{eqb}
use lib.ListN.{length, get_or}
use lib.Seq.{get_or-drop}
use borrow.Author.Tests.{le-leb}
use Rattle.std.specs.Prelude.{Option, Some, None, is_some, option_map}
use Rattle.std.specs.Bool.{then_some}
use Rattle.basics.specs.Bits.{has}
use Rattle.le.specs.Le.{le}
use Rattle.le.proofs.Laws.{le_lt}
use Rattle.layout.specs.Fields.{digits}
use Rattle.cper_fields.specs.Fields.{number_if, part, zeros, present, severity_number}
use Rattle.cper_header.specs.Record.{header_size, signature, signature_end, starts_with, is_cper, count_of}
use Rattle.cper_header.specs.Header.{timestamp_of, timestamp_bytes, platform_bit, timestamp_bit, partition_bit, header_of, counted, bits_of, normal_header, header_bytes}
use Rattle.cper_header.specs.declared.Timestamp.{Timestamp}
use Rattle.cper_header.specs.declared.CperHeader.{CperHeader}
use Rattle.cper_fields.proofs.Lengths.{length_part, length-present}
use Rattle.cper_header.proofs.Lengths.{length_timestamp}
use Rattle.cper_laws.proofs.SeverityAgain.{severity_again, severity_small}
use Rattle.cper_laws.proofs.Reading.{From, past, past_number, read_number, read_bytes, read_field}

-- ---- the timestamp

precise_again : (p : Bool) → eqb (number_if p 1 % 2) 1 ≡ p
precise_again true = refl
precise_again false = refl

module _ (t : Timestamp) (bs rest : List ℕ) (at : ℕ) (from : From bs at (timestamp_bytes t ++ rest)) where
  byte : (j : ℕ) → get_or bs (at + j) 0 ≡ get_or (timestamp_bytes t ++ rest) j 0
  byte j = sym (get_or-drop at bs j 0) ∙ ap (λ (l : List ℕ). get_or l j 0) from.is

  timestamp_from : timestamp_of bs at ≡ t
  timestamp_from =
      let first : get_or bs at 0 ≡ t.seconds = ap (λ (i : ℕ). get_or bs i 0) (sym (add-zero at)) ∙ byte 0 in
      rw (first, byte 1, byte 2, byte 3, byte 4, byte 5, byte 6, byte 7, precise_again t.precise)

timestamp_again : (t : Option Timestamp) (bs rest : List ℕ) (at : ℕ) → From bs at (present 8 (option_map timestamp_bytes t) ++ rest)
    → then_some (is_some t) (timestamp_of bs at) ≡ t
timestamp_again None bs rest at from = refl
timestamp_again (Some t) bs rest at from = ap Some (timestamp_from t bs rest at from)

-- ---- the header

validation_bits : (t p q : Bool) → (let bits = number_if t timestamp_bit + number_if p platform_bit + number_if q partition_bit in
    (has bits timestamp_bit ≡ t) × (has bits platform_bit ≡ p) × (has bits partition_bit ≡ q) × (bits < 256 ^ 4))
validation_bits true true true = (refl, refl, refl, omega arith)
validation_bits true true false = (refl, refl, refl, omega arith)
validation_bits true false true = (refl, refl, refl, omega arith)
validation_bits true false false = (refl, refl, refl, omega arith)
validation_bits false true true = (refl, refl, refl, omega arith)
validation_bits false true false = (refl, refl, refl, omega arith)
validation_bits false false true = (refl, refl, refl, omega arith)
validation_bits false false false = (refl, refl, refl, omega arith)

-- a header whose numbers fit their fields, and whose validation number tells its fields
pub record Plain (h : CperHeader) : Type 0 where
  pub revision : h.revision < 256 ^ 2
  pub count : h.section_count < 256 ^ 2
  pub size : h.record_length < 256 ^ 4
  pub id : h.record_id < 256 ^ 8
  pub flags : h.flags < 256 ^ 4
  pub persistence : h.persistence_information < 256 ^ 8
  pub bits : h.validation_bits ≡ bits_of h
  pub platform : length (present 16 h.platform_id) ≡ 16
  pub partition : length (present 16 h.partition_id) ≡ 16
  pub creator : length h.creator_id ≡ 16
  pub notification : length h.notification_type ≡ 16

module _ (h : CperHeader) (p : Plain h) (bs rest : List ℕ)
    (from : From bs 0
    (signature
    ++ (digits 2 h.revision
    ++ (digits 4 signature_end
    ++ (digits 2 h.section_count
    ++ (digits 4 (severity_number h.error_severity)
    ++ (digits 4 h.validation_bits
    ++ (digits 4 h.record_length
    ++ (present 8 (option_map timestamp_bytes h.timestamp)
    ++ (present 16 h.platform_id
    ++ (present 16 h.partition_id
    ++ (h.creator_id
    ++ (h.notification_type
    ++ (digits 8 h.record_id
    ++ (digits 4 h.flags
    ++ (digits 8 h.persistence_information
    ++ (zeros 12 ++ rest))))))))))))))))) where
  header_from_lem : (header_of bs ≡ h) × (le 4 bs 6 ≡ signature_end) × (count_of bs ≡ h.section_count)
  unfolding header_of
  header_from_lem =
      let v = validation_bits (is_some h.timestamp) (is_some h.platform_id) (is_some h.partition_id) in
      let bits_small : h.validation_bits < 256 ^ 4 = rw p.bits v.3 in
      let has-timestamp : has h.validation_bits timestamp_bit ≡ is_some h.timestamp = rw p.bits v.0 in
      let has-platform : has h.validation_bits platform_bit ≡ is_some h.platform_id = rw p.bits v.1 in
      let has-partition : has h.validation_bits partition_bit ≡ is_some h.partition_id = rw p.bits v.2 in
      let revision = past 4 signature _ refl from in
      let end = past_number 2 h.revision _ revision in
      let count = past_number 4 signature_end _ end in
      let severity = past_number 2 h.section_count _ count in
      let bits = past_number 4 (severity_number h.error_severity) _ severity in
      let size = past_number 4 h.validation_bits _ bits in
      let timestamp = past_number 4 h.record_length _ size in
      let platform = past 8 (present 8 (option_map timestamp_bytes h.timestamp)) _ (length_timestamp h.timestamp) timestamp in
      let partition = past 16 (present 16 h.platform_id) _ p.platform platform in
      let creator = past 16 (present 16 h.partition_id) _ p.partition partition in
      let notification = past 16 h.creator_id _ p.creator creator in
      let id = past 16 h.notification_type _ p.notification notification in
      let flags = past_number 8 h.record_id _ id in
      let persistence = past_number 4 h.flags _ flags in
      let count-read = read_number 2 h.section_count _ p.count count in (
        rw (
          read_number 2 h.revision _ p.revision revision,
          count-read,
          read_number 4 (severity_number h.error_severity) _ (severity_small h.error_severity) severity,
          read_number 4 h.validation_bits _ bits_small bits,
          read_number 4 h.record_length _ p.size size,
          read_bytes 16 h.creator_id _ p.creator creator,
          read_bytes 16 h.notification_type _ p.notification notification,
          read_number 8 h.record_id _ p.id id,
          read_number 4 h.flags _ p.flags flags,
          read_number 8 h.persistence_information _ p.persistence persistence,
          severity_again h.error_severity,
          has-timestamp,
          has-platform,
          has-partition,
          timestamp_again h.timestamp bs _ 24 timestamp,
          read_field 16 h.platform_id _ p.platform platform,
          read_field 16 h.partition_id _ p.partition partition,
        ),
        read_number 4 signature_end _ (omega arith) end,
        count-read,
      )

  starts : starts_with signature bs ≡ true
  unfolding starts_with
  starts = ap (starts_with signature) from.is

  -- it is a CPER's
  cper_from : header_size ≤ length bs → is_cper bs ≡ true
  unfolding is_cper
  cper_from long = rw (le-leb header_size (length bs) long, starts, header_from_lem.1)

module _ (h : CperHeader) (p : Plain h) (rest : List ℕ) where
  -- such a header, written, is read as it was
  pub header_again : header_of (header_bytes h ++ rest) ≡ h
  unfolding header_bytes
  header_again = (header_from_lem h p (header_bytes h ++ rest) rest (record { is = simp append_assoc })).0

  pub count_again : count_of (header_bytes h ++ rest) ≡ h.section_count
  unfolding header_bytes
  count_again = (header_from_lem h p (header_bytes h ++ rest) rest (record { is = simp append_assoc })).2

  -- it is a CPER's
  pub cper_again : header_size ≤ length (header_bytes h ++ rest) → is_cper (header_bytes h ++ rest) ≡ true
  unfolding header_bytes
  cper_again long = cper_from h p (header_bytes h ++ rest) rest (record { is = simp append_assoc }) long

-- the normal form of what was read is such a header
pub header_plain : (bs : List ℕ) → ((k : ℕ) → get_or bs k 0 < 256) → header_size ≤ length bs → (count size : ℕ) → count < 256 ^ 2 → size < 256 ^ 4
    → Plain (normal_header (counted count size (header_of bs)))
unfolding header_of
header_plain bs bytes whole count size few small =
    let v = le 4 bs 16 in
    record {
      revision = le_lt bs bytes 4 2;
      count = few;
      size = small;
      id = le_lt bs bytes 96 8;
      flags = le_lt bs bytes 104 4;
      persistence = le_lt bs bytes 108 8;
      bits = refl;
      platform = length-present (has v platform_bit) 16 (part bs 32 16) (length_part bs 32 16 (omega arith));
      partition = length-present (has v partition_bit) 16 (part bs 48 16) (length_part bs 48 16 (omega arith));
      creator = length_part bs 64 16 (omega arith);
      notification = length_part bs 80 16 (omega arith);
    }
