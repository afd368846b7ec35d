-- `put_start` writes its numbers one after the other.
-- By what is laid out after each write, which leaves room for the next. Assumes nothing.
use mathlib.Core.Path.{refl}
use Rattle.layout.specs.Fields.{digits}
use Rattle.cper_descr.specs.Descriptor.{descriptor_size}
use Rattle.cper_fields.proofs.Laid.{Laid, laid_none, laid_number}
use Rattle.cper_descr.proofs.put_start.Goals as goal

pub returns : goal.returns
unfolding digits
returns c =
    let none = laid_none descriptor_size c.args.out.now c.requires in
    let offset : Laid descriptor_size 4 c.write_le.new.out = laid_number none 4 tt c.write_le.ensures refl in
    let size : Laid descriptor_size 8 c.write_le-2.new.out = laid_number offset 4 tt c.write_le-2.ensures refl in
    let revision : Laid descriptor_size 10 c.write_le-3.new.out = laid_number size 2 tt c.write_le-3.ensures refl in
    let bits : Laid descriptor_size 11 c.write_le-4.new.out = laid_number revision 1 tt c.write_le-4.ensures refl in
    let reserved : Laid descriptor_size 12 c.write_le-5.new.out = laid_number bits 1 tt c.write_le-5.ensures refl in
    let flags : Laid descriptor_size 16 c.write_le-6.new.out = laid_number reserved 4 tt c.write_le-6.ensures refl in
    flags.is
