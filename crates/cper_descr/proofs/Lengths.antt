-- The bytes of a descriptor that was read are 72, whatever is changed of its numbers.
-- By the lengths of its fields. Assumes nothing.
use mathlib.Core.Path.{◌≡◌}
use mathlib.Core.List.{List}
use Prim.Native.Nat.{ℕ, ◌≤◌}
use native.Mathlib.Omega.{arith}
use lib.ListN.{length, length-append}
use Rattle.basics.specs.Bits.{has}
use Rattle.le.specs.Le.{le}
use Rattle.layout.proofs.Digits.{length_digits}
use Rattle.cper_fields.specs.Fields.{part, present}
use Rattle.cper_fields.proofs.Lengths.{length_part, length-present}
use Rattle.cper_descr.specs.Descriptor.{descriptor_size, fru_id_bit, fru_text_bit, changed, descriptor_of, descriptor_bytes}
use Rattle.cper_descr.specs.declared.CperSectionDescriptor.{CperSectionDescriptor}

pub length-descriptor : (d : CperSectionDescriptor) → length d.section_type ≡ 16 → length (present 16 d.fru_id) ≡ 16 → length (present 20 d.fru_text) ≡ 20
    → length (descriptor_bytes d) ≡ descriptor_size
unfolding descriptor_bytes
length-descriptor d type fru text = simp (length-append, length_digits) (omega arith)

-- as it was read, but for the offset and the validation number
pub length-descriptor_read : (bs : List ℕ) (offset bits : ℕ) → descriptor_size ≤ length bs → length (descriptor_bytes (changed offset bits (descriptor_of bs))) ≡ descriptor_size
unfolding descriptor_of
length-descriptor_read bs offset bits h =
    let v = le 1 bs 10 in
    length-descriptor (changed offset bits (descriptor_of bs)) (length_part bs 16 16 (omega arith))
    (length-present (has v fru_id_bit) 16 (part bs 32 16) (length_part bs 32 16 (omega arith)))
    (length-present (has v fru_text_bit) 20 (part bs 52 20) (length_part bs 52 20 (omega arith)))
