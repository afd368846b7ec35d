-- `CperSectionDescriptor::to_bytes` writes the fields one after the other.
-- By what is laid out after each write, which leaves room for the next. Assumes nothing.
use mathlib.Core.Path.{refl}
use native.Mathlib.Omega.{arith}
use Rattle.cper_descr.specs.Descriptor.{descriptor_size, descriptor_bytes}
use Rattle.cper_fields.proofs.Laid.{Laid, laid_number, laid_bytes, laid_field}
use Rattle.cper_descr.proofs.Start.{laid_start}
use Rattle.cper_descr.proofs.CperSectionDescriptor.to_bytes.Goals as goal

pub returns : goal.returns
unfolding descriptor_bytes
returns c =
    let start : Laid descriptor_size 16 c.put_start.new.out =
    laid_start c.args.out.now c.requires c.args.self.section_offset c.put_start.ensures refl refl refl refl in
    let type : Laid descriptor_size 32 c.put_bytes.new.out = laid_bytes start 16 c.put_bytes.ensures (omega arith) refl in
    let fru : Laid descriptor_size 48 c.put_field.new.out = laid_field type 16 c.args.self.fru_id c.put_field.ensures refl in
    let severity : Laid descriptor_size 52 c.write_le.new.out = laid_number fru 4 tt c.write_le.ensures c.from.ensures in
    let text : Laid descriptor_size 72 c.put_field-2.new.out = laid_field severity 20 c.args.self.fru_text c.put_field-2.ensures refl in
    text.is
