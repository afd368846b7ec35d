-- The sections that a record is made of are told by its descriptors again, packed; with the same bodies and the same descriptors.
-- By induction over the sections: each descriptor, written, is read as it was. Assumes nothing.
use mathlib.Core.Path.{◌≡◌, refl, sym, ap, ap₂, subst, ◌∙◌}
use mathlib.Core.List.{List, [], ◌∷◌, ◌++◌, append_assoc}
use mathlib.Core.Bool.{Bool, true, false, cond}
use Prim.Native.Nat.{ℕ, zero, suc, ◌+◌, ◌≤◌, ◌<◌}
use native.Mathlib.Omega.{arith}
use lib.ListN.{length, get_or, drop, length-append, length-drop}
use lib.Seq.{get_or-drop}
use borrow.Author.Tests.{le-leb}
use Rattle.le.specs.Le.{le}
use Rattle.cper_header.specs.Record.{count_of}
use Rattle.cper_descr.specs.Descriptor.{descriptor_size, offset_at, length_at, descriptor_of, moved, normal_descriptor, descriptor_bytes}
use Rattle.cper_descr.specs.declared.CperSectionDescriptor.{CperSectionDescriptor}
use Rattle.cper_sections.specs.Sections.{descriptor_at, told, keeps, kept_from, kept_of, body_of}
use Rattle.cper_sections.specs.Steps.{Within}
use Rattle.cper_sections.specs.declared.kept.Section.{Section}
use Rattle.cper_normal.specs.Normal.{body_sizes, most_output, descriptor_for, descriptors_for, bodies_of}
use Rattle.cper_sections.specs.Steps.{AllWithin}
use Rattle.cper_normal.proofs.Packed.{length-body, length-descriptor_for}
use Rattle.cper_laws.specs.Again.{repacked, body_list}
use Rattle.cper_laws.proofs.Reading.{From, le-drop, past, read_bytes}
use Rattle.cper_laws.proofs.DescriptorAgain.{descriptor_again, descriptor_plain}

-- each section has the size that its descriptor tells
abbrev pub Sized : List ℕ → List Section → Type 0
Sized cper [] = Unit {0}
Sized cper (k ∷ ks) = (k.size ≡ (told cper k.index).size) × Sized cper ks

kept_from_sized : (cper : List ℕ) (i n : ℕ) → Sized cper (kept_from cper i n)
unfolding kept_from
kept_from_sized cper i zero = tt
kept_from_sized cper i (suc n) = by_kept (keeps cper i) (kept_from_sized cper (suc i) n)
  where
    by_kept : (t : Bool) → Sized cper (kept_from cper (suc i) n) → Sized cper (cond t (told cper i ∷ kept_from cper (suc i) n) (kept_from cper (suc i) n))
    by_kept true rest = (refl, rest)
    by_kept false rest = rest

pub kept_sized : (cper : List ℕ) → Sized cper (kept_of cper)
unfolding kept_of
kept_sized cper = kept_from_sized cper 0 (count_of cper)

module _ (cper : List ℕ) (bytes : (k : ℕ) → get_or cper k 0 < 256) (new : List ℕ) where
  -- a section's normal descriptor
  abbrev normal_for : Section → ℕ → CperSectionDescriptor
  normal_for k to = normal_descriptor (moved to (descriptor_of (drop (descriptor_at k.index) cper)))

  -- it is read again
  again : (k : Section) (row to : ℕ) (after : List ℕ) → Within cper k → to ≤ most_output
      → From new (descriptor_at row) (descriptor_for cper k to ++ after) → descriptor_of (drop (descriptor_at row) new) ≡ normal_for k to
  again k row to after i small from =
      let at = descriptor_at k.index in
      let tail = drop at cper in
      let tail-bytes : (j : ℕ) → get_or tail j 0 < 256 = λ j. rw (get_or-drop at cper j 0) (bytes (at + j)) in
      ap descriptor_of from.is
      ∙ descriptor_again (normal_for k to) (descriptor_plain tail tail-bytes (omega (arith, i.descriptor, length-drop at cper)) to (omega arith)) after

  -- so the section is told
  told_again : (k : Section) (row to : ℕ) → k.size ≡ (told cper k.index).size → descriptor_of (drop (descriptor_at row) new) ≡ normal_for k to
      → told new row ≡ record { index = row; offset = to; size = k.size }
  unfolding descriptor_of
  told_again k row to s e =
      let offset : le 4 new (descriptor_at row + offset_at) ≡ to =
      sym (le-drop 4 new (descriptor_at row) offset_at) ∙ ap (λ (d : CperSectionDescriptor). d.section_offset) e in
      let size : le 4 new (descriptor_at row + length_at) ≡ k.size =
      sym (le-drop 4 new (descriptor_at row) length_at) ∙ ap (λ (d : CperSectionDescriptor). d.section_length) e ∙ le-drop 4 cper (descriptor_at k.index) length_at ∙ sym s in
      ap₂ (λ (o n : ℕ). record { index = row; offset = o; size = n }) offset size

  -- the descriptors after it
  next : (k : Section) (row to : ℕ) (after : List ℕ) → Within cper k
      → From new (descriptor_at row) (descriptor_for cper k to ++ after) → From new (descriptor_at (row + 1)) after
  next k row to after i from =
      let e : descriptor_at row + descriptor_size ≡ descriptor_at (row + 1) = omega arith in
      subst (λ (at : ℕ). From new at after) e (past descriptor_size (descriptor_for cper k to) after (length-descriptor_for cper k to i) from)

  -- ---- all of them

  apart : (k : Section) (ks : List Section) (row to : ℕ) (after : List ℕ) → From new (descriptor_at row) (descriptors_for cper (k ∷ ks) to ++ after)
      → From new (descriptor_at row) (descriptor_for cper k to ++ (descriptors_for cper ks (to + k.size) ++ after))
  unfolding descriptors_for
  apart k ks row to after from = record { is = from.is ∙ append_assoc (descriptor_for cper k to) (descriptors_for cper ks (to + k.size)) after }

  -- the sections are kept again
  pub sections_again : (ks : List Section) (row to : ℕ) (after : List ℕ) → AllWithin cper ks → Sized cper ks
      → to + body_sizes ks ≤ length new → to + body_sizes ks ≤ most_output
      → From new (descriptor_at row) (descriptors_for cper ks to ++ after) → kept_from new row (length ks) ≡ repacked row to ks
  unfolding kept_from repacked body_sizes
  sections_again [] row to after i s long small from = refl
  sections_again (k ∷ ks) row to after i s long small from =
      let here = apart k ks row to after from in
      let d = again k row to (descriptors_for cper ks (to + k.size) ++ after) i.0 (omega arith) here in
      let t = told_again k row to s.0 d in
      let n : suc row ≡ row + 1 = omega arith in
      let size = length-descriptor_for cper k to i.0 in
      let room = sym (length-drop (descriptor_at row) new) ∙ ap length here.is ∙ length-append (descriptor_for cper k to) (descriptors_for cper ks (to + k.size) ++ after) in
      let body : (told new row).offset + (told new row).size ≤ length new = subst (λ (x : Section). x.offset + x.size ≤ length new) (sym t) (omega arith) in
      rw (le-leb (descriptor_at row + descriptor_size) (length new) (omega arith), le-leb ((told new row).offset + (told new row).size) (length new) body)
      (ap₂ (λ (x : Section) (xs : List Section). x ∷ xs) t
      (ap (λ (j : ℕ). kept_from new j (length ks)) n
      ∙ sections_again ks (row + 1) (to + k.size) after i.1 s.1 (omega arith) (omega arith) (next k row to (descriptors_for cper ks (to + k.size) ++ after) i.0 here)))

  -- their descriptors are the same
  pub descriptors_again : (ks : List Section) (row to : ℕ) (after : List ℕ) → AllWithin cper ks → to + body_sizes ks ≤ most_output
      → From new (descriptor_at row) (descriptors_for cper ks to ++ after) → descriptors_for new (repacked row to ks) to ≡ descriptors_for cper ks to
  unfolding descriptors_for repacked body_sizes
  descriptors_again [] row to after i small from = refl
  descriptors_again (k ∷ ks) row to after i small from =
      let here = apart k ks row to after from in
      let d = again k row to (descriptors_for cper ks (to + k.size) ++ after) i.0 (omega arith) here in
      ap₂ (λ (a b : List ℕ). a ++ b)
      (ap (λ (x : CperSectionDescriptor). descriptor_bytes (normal_descriptor (moved to x))) d)
      (descriptors_again ks (row + 1) (to + k.size) after i.1 (omega arith) (next k row to (descriptors_for cper ks (to + k.size) ++ after) i.0 here))

  -- so are their bodies
  pub bodies_again : (ks : List Section) (row to : ℕ) (after : List ℕ) → AllWithin cper ks → From new to (bodies_of cper ks ++ after)
      → (body_list new (repacked row to ks) ≡ body_list cper ks) × (bodies_of new (repacked row to ks) ≡ bodies_of cper ks)
  unfolding body_list bodies_of repacked
  bodies_again [] row to after i from = (refl, refl)
  bodies_again (k ∷ ks) row to after i from =
      let here : From new to (body_of cper k ++ (bodies_of cper ks ++ after)) = record { is = from.is ∙ append_assoc (body_of cper k) (bodies_of cper ks) after } in
      let size = length-body cper k i.0 in
      let body = read_bytes k.size (body_of cper k) (bodies_of cper ks ++ after) size here in
      let rest = bodies_again ks (row + 1) (to + k.size) after i.1 (past k.size (body_of cper k) (bodies_of cper ks ++ after) size here) in
      (ap₂ (λ (x : List ℕ) (xs : List (List ℕ)). x ∷ xs) body rest.0, ap₂ (λ (a b : List ℕ). a ++ b) body rest.1)
