-- `section_told` gives the section that a descriptor tells.
-- By the halves of the number that it reads. Assumes nothing.
use mathlib.Core.Path.{◌≡◌, ap, ap₂, ◌∙◌}
use mathlib.Core.List.{List}
use Prim.Native.Nat.{ℕ, ◌+◌, ◌/◌, ◌%◌, ◌^◌, ◌<◌}
use native.Mathlib.Omega.{arith}
use lib.ListN.{get_or}
use Rattle.le.specs.Le.{le}
use Rattle.le.proofs.Laws.{low_half, high_half}
use Rattle.cper_descr.specs.Descriptor.{offset_at, length_at}
use Rattle.cper_sections.specs.Sections.{descriptor_at, told}
use Rattle.cper_sections.proofs.kept.section_told.Goals as goal

halves : (cper : List ℕ) → ((k : ℕ) → get_or cper k 0 < 256) → (i at both : ℕ) → at ≡ descriptor_at i → both ≡ le 8 cper (at + offset_at)
    → record { index = i; offset = both % 256 ^ 4; size = both / 256 ^ 4 } ≡ told cper i
halves cper bytes i at both stands e =
    let next : descriptor_at i + offset_at + 4 ≡ descriptor_at i + length_at = omega arith in
    ap₂ (λ (offset size : ℕ). record { index = i; offset = offset; size = size })
    (rw (e, stands) (low_half cper bytes (descriptor_at i + offset_at) 4 4))
    (rw (e, stands) (high_half cper bytes (descriptor_at i + offset_at) 4 4 ∙ ap (le 4 cper) next))

pub returns : goal.returns
returns c =
    halves c.args.cper.now (λ k. (c.type_inv.cper k).fits) c.args.index c.descriptor_at.result
    c.read_le-both.result c.descriptor_at.ensures c.read_le-both.ensures
