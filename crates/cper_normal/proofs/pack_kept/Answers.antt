-- `pack_kept` writes the normal form where its length fits the output and 32 bits.
-- By what the header's and the sections' writes leave. Assumes nothing.
use mathlib.Core.Path.{◌≡◌, ap, ap₂, ◌∙◌}
use mathlib.Core.List.{List, ◌++◌}
use mathlib.Core.Logic.{⊎_elim}
use Prim.Native.Nat.{ℕ, ◌≤◌, ◌<◌}
use native.Mathlib.Omega.{arith}
use lib.ListN.{length, drop}
use borrow.Author.Tests.{le-leb, lt-leb}
use Rattle.std.specs.Prelude.{Result, Ok, Err}
use Rattle.cper_header.specs.Record.{header_size}
use Rattle.cper_header.specs.Header.{header_of, counted, normal_header, header_bytes, bits_of}
use Rattle.cper_header.proofs.Lengths.{length-header_read}
use Rattle.cper_sections.specs.Sections.{kept_of}
use Rattle.cper_sections.specs.declared.Refusal.{Refusal}
use Rattle.cper_sections.specs.declared.Refusal.TheVariants.{OutputShort}
use Rattle.cper_normal.specs.Normal.{bodies_at, size_of, header_for, normal_of, most_output, packed_in}
use Rattle.cper_normal.specs.Steps.{pack}
use Rattle.cper_sections.proofs.KeptFrom.{kept_within}
use Rattle.cper_normal.proofs.Packed.{packed}
use Rattle.cper_normal.proofs.pack_kept.Goals as goal

module _ (cper out : List ℕ) where
  -- the output is too short
  short : length out < size_of (kept_of cper) → ◌≡◌ {A = List ℕ × Result ℕ Refusal} (out, Err OutputShort) (packed_in cper out)
  unfolding packed_in
  short h = rw (lt-leb (size_of (kept_of cper)) (length out) h)

  module _ (room : size_of (kept_of cper) ≤ length out) where
    -- the length is too large
    large : most_output < size_of (kept_of cper) → ◌≡◌ {A = List ℕ × Result ℕ Refusal} (out, Err OutputShort) (packed_in cper out)
    unfolding packed_in
    large h = rw (le-leb (size_of (kept_of cper)) (length out) room, lt-leb (size_of (kept_of cper)) most_output h)

    -- header and sections are written
    written : (size : ℕ) (mid last : List ℕ) → header_size ≤ length cper → size_of (kept_of cper) ≤ most_output → size ≡ size_of (kept_of cper)
        → mid ≡ header_for cper (kept_of cper) ++ drop header_size out
        → last ≡ pack cper mid 0 (bodies_at (kept_of cper)) (kept_of cper)
        → ◌≡◌ {A = List ℕ × Result ℕ Refusal} (last, Ok size) (packed_in cper out)
    unfolding packed_in normal_of
    written size mid last h small e f g =
        let ks = kept_of cper in
        rw (le-leb (size_of ks) (length out) room, le-leb (size_of ks) most_output small)
        (ap₂ (λ (l : List ℕ) (n : ℕ). (l, Ok n))
        (g ∙ ap (λ (l : List ℕ). pack cper l 0 (bodies_at ks) ks) f
        ∙ packed cper out ks (header_for cper ks) (kept_within cper) (length-header_read cper (length ks) (size_of ks) (bits_of (header_of cper)) h) room)
        e)

pub returns-then-out-size : goal.returns-then-out-size
returns-then-out-size c =
    let a = c.args in
    let size = c.measure-kept.ensures.size in
    ⊎_elim (λ less. short a.cper.now a.out.now (omega arith)) (λ fits. large a.cper.now a.out.now (omega arith) (omega arith)) c.then-out-size.either

pub returns : goal.returns
returns c =
    let a = c.args in
    let m = c.measure-kept.ensures in
    let size = m.size in
    written a.cper.now a.out.now (omega arith) c.measure-kept.result.size c.write_header.new.out c.write_sections.new.out c.requires (omega arith) size
    (c.write_header.ensures
    ∙ ap₂ (λ (n k : ℕ). header_bytes (normal_header (counted n k (header_of a.cper.now))) ++ drop header_size a.out.now) m.kept size)
    c.write_sections.ensures
