-- `CperHeader::to_bytes` writes the fields one after the other.
-- By what is laid out after each write, which leaves room for the next. Assumes nothing.
use mathlib.Core.Path.{◌≡◌, refl}
use native.Mathlib.Omega.{arith}
use Rattle.layout.specs.Fields.{digits}
use Rattle.std.specs.Prelude.{option_map}
use Rattle.std.proofs.Common.{rules}
use Rattle.cper_header.specs.Record.{header_size, signature}
use Rattle.cper_header.specs.Header.{header_bytes, timestamp_bytes}
use Rattle.cper_fields.proofs.Laid.{Laid, laid_none, laid_number, laid_bytes, laid_field}
use Rattle.cper_header.proofs.CperHeader.to_bytes.Goals as goal

pub returns : goal.returns
unfolding header_bytes digits
returns c =
    let h = c.args.self in
    let stamp : c.map.result ≡ option_map timestamp_bytes h.timestamp = search rules in
    let signed : Laid header_size 4 c.put_bytes.new.out = laid_bytes (laid_none header_size c.args.out.now c.requires) 4 {field = signature} c.put_bytes.ensures refl refl in
    let revision : Laid header_size 6 c.write_le.new.out = laid_number signed 2 tt c.write_le.ensures refl in
    let end : Laid header_size 10 c.write_le-2.new.out = laid_number revision 4 tt c.write_le-2.ensures refl in
    let count : Laid header_size 12 c.write_le-3.new.out = laid_number end 2 tt c.write_le-3.ensures refl in
    let severity : Laid header_size 16 c.write_le-4.new.out = laid_number count 4 tt c.write_le-4.ensures c.from.ensures in
    let bits : Laid header_size 20 c.write_le-5.new.out = laid_number severity 4 tt c.write_le-5.ensures refl in
    let length : Laid header_size 24 c.write_le-6.new.out = laid_number bits 4 tt c.write_le-6.ensures refl in
    let timestamp : Laid header_size 32 c.put_field.new.out = laid_field length 8 (option_map timestamp_bytes h.timestamp) c.put_field.ensures stamp in
    let platform : Laid header_size 48 c.put_field-2.new.out = laid_field timestamp 16 h.platform_id c.put_field-2.ensures refl in
    let partition : Laid header_size 64 c.put_field-3.new.out = laid_field platform 16 h.partition_id c.put_field-3.ensures refl in
    let creator : Laid header_size 80 c.put_bytes-2.new.out = laid_bytes partition 16 c.put_bytes-2.ensures (omega arith) refl in
    let notification : Laid header_size 96 c.put_bytes-3.new.out = laid_bytes creator 16 c.put_bytes-3.ensures (omega arith) refl in
    let id : Laid header_size 104 c.write_le-7.new.out = laid_number notification 8 tt c.write_le-7.ensures refl in
    let flags : Laid header_size 108 c.write_le-8.new.out = laid_number id 4 tt c.write_le-8.ensures refl in
    let persistence : Laid header_size 116 c.write_le-9.new.out = laid_number flags 8 tt c.write_le-9.ensures refl in
    let whole : Laid header_size 128 c.put_bytes-4.new.out = laid_bytes persistence 12 c.put_bytes-4.ensures refl refl in
    whole.is
