-- `rewrite` writes the fields one after the other, as reading, moving, normalizing and writing the descriptor does.
-- By what is laid out after each write, which leaves room for the next. Assumes nothing.
use mathlib.Core.Path.{◌≡◌, ap, ◌∙◌}
use Prim.Native.Nat.{ℕ, ◌%◌}
use native.Mathlib.Omega.{arith}
use Rattle.basics.specs.Bits.{has}
use Rattle.le.specs.Le.{le}
use Rattle.std.proofs.Common.{rules}
use Rattle.std.specs.Bool.{then_some}
use Rattle.cper_fields.specs.Fields.{part, severity_of, severity_number}
use Rattle.cper_descr.specs.Descriptor.{descriptor_size, fru_id_bit, fru_text_bit, descriptor_of, descriptor_bytes}
use Rattle.cper_fields.proofs.Laid.{Laid, laid_number, laid_bytes, laid_field}
use Rattle.cper_descr.proofs.Start.{laid_start}
use Rattle.cper_descr.proofs.Bits.{known_bits}
use Rattle.cper_descr.proofs.rewrite.Goals as goal

pub returns : goal.returns
unfolding descriptor_bytes descriptor_of
returns c =
    let s = c.args.s.now in
    let bits = le 1 s 10 in
    let fru_id : c.then_some-fru_id.result ≡ then_some (has bits fru_id_bit) (part s 32 16) = search rules in
    let fru_text : c.then_some-fru_text.result ≡ then_some (has bits fru_text_bit) (part s 52 20) = search rules in
    let start : Laid descriptor_size 16 c.put_start.new.out =
    laid_start c.args.out.now c.requires.1 c.args.offset c.put_start.ensures c.read_le.ensures c.read_le-2.ensures
    (ap (λ (b : ℕ). b % 4) c.read_le-bits.ensures ∙ known_bits bits (part s 32 16) (part s 52 20)) c.read_le-3.ensures in
    let type : Laid descriptor_size 32 c.put_bytes.new.out = laid_bytes start 16 c.put_bytes.ensures (omega arith) c.bytes_at.ensures in
    let fru : Laid descriptor_size 48 c.put_field.new.out = laid_field type 16 _ c.put_field.ensures fru_id in
    let severity : Laid descriptor_size 52 c.write_le.new.out =
    laid_number fru 4 tt c.write_le.ensures
    (c.from.ensures ∙ ap severity_number (c.from-severity.ensures ∙ ap severity_of c.read_le-4.ensures)) in
    let text : Laid descriptor_size 72 c.put_field-2.new.out = laid_field severity 20 _ c.put_field-2.ensures fru_text in
    text.is
