-- `encode` writes a header's bytes, or refuses and writes nothing.
-- What is written of a header that can be encoded is the table's bytes. Assumes nothing.
use mathlib.Core.Path.{◌≡◌, sym, ap₂, ◌∙◌}
use mathlib.Core.List.{List}
use Prim.Native.Nat.{ℕ, ◌≤◌}
use native.Mathlib.Omega.{arith}
use lib.ListN.{length}
use Rattle.std.specs.Prelude.{Ok}
use Rattle.header.specs.Access.{header_size}
use Rattle.header_encode.proofs.Fitting.{in_bits, can_version, can_fit, can_count}
use Rattle.header_encode.proofs.Encoded.{encoded_is}
use Rattle.header_encode.proofs.Tables.{written_bytes}
use Rattle.header_encode.proofs.encode.Goals as goal

pub put_header-requires : goal.put_header-requires
put_header-requires c =
    let a = c.args in
    let can = sym c.can_encode.ensures ∙ c.if-not-can_encode.false in
    let size = c.header_size-size.ensures in
    record { room = omega arith; bits = in_bits a.header.version (can_version a.rules.now a.header can); fit = can_fit a.rules.now a.header can }

pub returns : goal.returns
returns c =
    let a = c.args in
    let good = sym c.valid.ensures ∙ c.if-not-valid.false in
    let can = sym c.can_encode.ensures ∙ c.if-not-can_encode.false in
    let size = c.header_size-size.ensures in
    let room : header_size a.header.header_type ≤ length a.out.now = omega arith in
    -- what its type says of the header's last field
    let words : length a.header.completion_statuses ≡ 127 = omega (arith, c.well_formed) in
    let few = can_count a.rules.now a.header can in
    ap₂ (λ (end : List ℕ) (n : ℕ). (end, Ok n)) (c.put_header.ensures ∙ written_bytes a.header a.out.now (omega arith) room) size
    ∙ sym (encoded_is a.rules.now good a.header can a.out.now room)
