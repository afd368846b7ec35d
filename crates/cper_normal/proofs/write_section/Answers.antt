-- `write_section` writes the descriptor through the part of the output that starts at its row, and the body at its offset.
-- By what each of the two writes leaves. Assumes nothing.
use mathlib.Core.Path.{◌≡◌, ap, ap₂, ◌∙◌}
use mathlib.Core.List.{List, ◌++◌}
use Prim.Native.Nat.{ℕ, ◌+◌, ◌-◌, ◌≤◌}
use native.Mathlib.Omega.{arith}
use lib.ListN.{length, take, drop, length-drop}
use lib.Seq.{length-take-le}
use borrow.Rule.Slice.PartMut.{put_mid}
use Rattle.basics.proofs.Parts.{tail_part}
use Rattle.cper_fields.specs.Fields.{over}
use Rattle.cper_descr.specs.Descriptor.{descriptor_size, descriptor_of, moved, normal_descriptor, descriptor_bytes}
use Rattle.cper_fields.proofs.Copies.{written_through}
use Rattle.cper_sections.specs.Sections.{descriptor_at, body_of}
use Rattle.cper_normal.specs.Normal.{descriptor_for}
use Rattle.cper_sections.specs.declared.kept.Section.{Section}
use Rattle.cper_normal.specs.Steps.{with_section}
use Rattle.cper_normal.proofs.write_section.Goals as goal

module _ (cper out : List ℕ) (row to : ℕ) (k : Section) where
  -- the descriptor
  first : (from slot : ℕ) (last : List ℕ) → from ≡ descriptor_at k.index → slot ≡ descriptor_at row
      → last ≡ descriptor_bytes (normal_descriptor (moved to (descriptor_of (take (length cper - from) (drop from cper))))) ++ drop descriptor_size (take (length out - slot) (drop slot out))
      → put_mid slot (length out - slot) out last ≡ over out (descriptor_at row) descriptor_size (descriptor_for cper k to)
  first from slot last e f g =
      written_through out (descriptor_bytes (normal_descriptor (moved to (descriptor_of (take (length cper - from) (drop from cper)))))) last slot descriptor_size g
      ∙ ap₂ (λ (at : ℕ) (bs : List ℕ). over out at descriptor_size (descriptor_bytes (normal_descriptor (moved to (descriptor_of bs))))) f
      (tail_part cper from ∙ ap (λ (at : ℕ). drop at cper) e)

  -- then the body
  second : (mid : List ℕ) → mid ≡ over out (descriptor_at row) descriptor_size (descriptor_for cper k to) → k.offset + k.size ≤ length cper
      → (let body = take (k.offset + k.size - k.offset) (drop k.offset cper) in over mid to (length body) body) ≡ with_section cper out row to k
  second mid e h =
      let count : k.offset + k.size - k.offset ≡ k.size = omega arith in
      let size : length (body_of cper k) ≡ k.size = length-take-le k.size (drop k.offset cper) (omega (arith, length-drop k.offset cper)) in
      ap (λ (n : ℕ). let body = take n (drop k.offset cper) in over mid to (length body) body) count
      ∙ ap₂ (λ (m : List ℕ) (n : ℕ). over m to n (body_of cper k)) e size

pub returns : goal.returns
returns c =
    let a = c.args in
    c.put_bytes.ensures
    ∙ second a.cper.now a.out.now a.row a.to a.section _
    (first a.cper.now a.out.now a.row a.to a.section c.descriptor_at-from.result c.descriptor_at-slot.result c.rewrite.new.out
    c.descriptor_at-from.ensures c.descriptor_at-slot.ensures c.rewrite.ensures)
    c.requires.section.body
