-- The CPER record header (document 01, 'CPER'; UEFI N.2.1): what is read of it, its normal form, and its bytes.
use Rattle.std.specs.Prelude.{ℕ, ◌+◌, ◌%◌, List, [], ◌∷◌, ◌++◌, eqb, get_or, is_some, option_map}
use Rattle.std.specs.Bool.{then_some}
use Rattle.basics.specs.Bits.{has}
use Rattle.le.specs.Le.{le}
use Rattle.layout.specs.Fields.{digits}
use Rattle.cper_fields.specs.Fields.{number_if, part, zeros, present, severity_of, severity_number}
use Rattle.cper_header.specs.Record.{signature, signature_end, count_of}
use Rattle.cper_header.specs.declared.Timestamp.{Timestamp}
use Rattle.cper_header.specs.declared.CperHeader.{CperHeader}

-- ---- the timestamp, of whose byte 3 the lowest bit counts

abbrev pub timestamp_of : List ℕ → ℕ → Timestamp
timestamp_of bs at =
    record {
      seconds = get_or bs at 0;
      minutes = get_or bs (at + 1) 0;
      hours = get_or bs (at + 2) 0;
      precise = eqb (get_or bs (at + 3) 0 % 2) 1;
      day = get_or bs (at + 4) 0;
      month = get_or bs (at + 5) 0;
      year = get_or bs (at + 6) 0;
      century = get_or bs (at + 7) 0;
    }

abbrev pub timestamp_bytes : Timestamp → List ℕ
timestamp_bytes t =
    t.seconds ∷ t.minutes ∷ t.hours ∷ number_if t.precise 1 ∷ t.day ∷ t.month ∷ t.year ∷ t.century ∷ []

-- ---- the header

-- the validation bits
abbrev pub platform_bit : ℕ
platform_bit = 1

abbrev pub timestamp_bit : ℕ
timestamp_bit = 2

abbrev pub partition_bit : ℕ
partition_bit = 4

-- what some bytes tell; a field whose bit is not set is absent
unfoldable pub header_of : List ℕ → CperHeader
header_of bs =
    let bits = le 4 bs 16 in
    record {
      revision = le 2 bs 4;
      section_count = count_of bs;
      error_severity = severity_of (le 4 bs 12);
      validation_bits = bits;
      record_length = le 4 bs 20;
      timestamp = then_some (has bits timestamp_bit) (timestamp_of bs 24);
      platform_id = then_some (has bits platform_bit) (part bs 32 16);
      partition_id = then_some (has bits partition_bit) (part bs 48 16);
      creator_id = part bs 64 16;
      notification_type = part bs 80 16;
      record_id = le 8 bs 96;
      flags = le 4 bs 104;
      persistence_information = le 8 bs 108;
    }

-- the header with another section count, record length and validation number
abbrev pub changed : ℕ → ℕ → ℕ → CperHeader → CperHeader
changed count size bits h =
    record {
      revision = h.revision;
      section_count = count;
      error_severity = h.error_severity;
      validation_bits = bits;
      record_length = size;
      timestamp = h.timestamp;
      platform_id = h.platform_id;
      partition_id = h.partition_id;
      creator_id = h.creator_id;
      notification_type = h.notification_type;
      record_id = h.record_id;
      flags = h.flags;
      persistence_information = h.persistence_information;
    }

-- the header of a record with so many sections and bytes
abbrev pub counted : ℕ → ℕ → CperHeader → CperHeader
counted count size h = changed count size h.validation_bits h

-- the bits of the fields that are present
abbrev pub bits_of : CperHeader → ℕ
bits_of h = number_if (is_some h.timestamp) timestamp_bit + number_if (is_some h.platform_id) platform_bit + number_if (is_some h.partition_id) partition_bit

-- the validation number tells the fields that are present, and nothing else
abbrev pub normal_header : CperHeader → CperHeader
normal_header h = changed h.section_count h.record_length (bits_of h) h

-- the 128 bytes
unfoldable pub header_bytes : CperHeader → List ℕ
header_bytes h =
    signature
    ++ digits 2 h.revision
    ++ digits 4 signature_end
    ++ digits 2 h.section_count
    ++ digits 4 (severity_number h.error_severity)
    ++ digits 4 h.validation_bits
    ++ digits 4 h.record_length
    ++ present 8 (option_map timestamp_bytes h.timestamp)
    ++ present 16 h.platform_id
    ++ present 16 h.partition_id
    ++ h.creator_id
    ++ h.notification_type
    ++ digits 8 h.record_id
    ++ digits 4 h.flags
    ++ digits 8 h.persistence_information
    ++ zeros 12
