-- The bytes of a header that was read are 128, whatever is changed of its numbers.
-- By the lengths of its fields. Assumes nothing.
use mathlib.Core.Path.{◌≡◌, refl}
use mathlib.Core.List.{List}
use Prim.Native.Nat.{ℕ, ◌≤◌}
use native.Mathlib.Omega.{arith}
use lib.ListN.{length, length-append}
use Rattle.std.specs.Prelude.{Option, Some, None, option_map}
use Rattle.basics.specs.Bits.{has}
use Rattle.le.specs.Le.{le}
use Rattle.layout.proofs.Digits.{length_digits}
use Rattle.cper_fields.specs.Fields.{part, present}
use Rattle.cper_fields.proofs.Lengths.{length_part, length-present}
use Rattle.cper_header.specs.Record.{header_size}
use Rattle.cper_header.specs.Header.{timestamp_bytes, platform_bit, partition_bit, changed, header_of, header_bytes}
use Rattle.cper_header.specs.declared.Timestamp.{Timestamp}
use Rattle.cper_header.specs.declared.CperHeader.{CperHeader}

pub length_timestamp : (t : Option Timestamp) → length (present 8 (option_map timestamp_bytes t)) ≡ 8
length_timestamp None = refl
length_timestamp (Some t) = refl

pub length-header : (h : CperHeader) → length (present 16 h.platform_id) ≡ 16 → length (present 16 h.partition_id) ≡ 16 → length h.creator_id ≡ 16 → length h.notification_type ≡ 16
    → length (header_bytes h) ≡ header_size
unfolding header_bytes
length-header h platform partition creator notification = simp (length-append, length_digits) (omega (arith, length_timestamp h.timestamp))

-- as it was read, but for the section count, the record length and the validation number
pub length-header_read : (bs : List ℕ) (count size bits : ℕ) → header_size ≤ length bs → length (header_bytes (changed count size bits (header_of bs))) ≡ header_size
unfolding header_of
length-header_read bs count size bits h =
    let v = le 4 bs 16 in
    length-header (changed count size bits (header_of bs))
    (length-present (has v platform_bit) 16 (part bs 32 16) (length_part bs 32 16 (omega arith)))
    (length-present (has v partition_bit) 16 (part bs 48 16) (length_part bs 48 16 (omega arith)))
    (length_part bs 64 16 (omega arith))
    (length_part bs 80 16 (omega arith))
