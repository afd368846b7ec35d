-- The normal form's length is 128, 72 for each kept section, and the lengths of their bodies.
-- By induction over the kept sections. Assumes nothing.
use mathlib.Core.Path.{◌≡◌, refl, ◌∙◌}
use mathlib.Core.List.{List, [], ◌∷◌}
use Prim.Native.Nat.{ℕ, ◌+◌, ◌*◌, ◌≤◌}
use native.Mathlib.Omega.{arith}
use lib.ListN.{length, length-append}
use Rattle.cper_header.specs.Record.{header_size}
use Rattle.cper_header.specs.Header.{header_of, bits_of}
use Rattle.cper_descr.specs.Descriptor.{descriptor_size}
use Rattle.cper_header.proofs.Lengths.{length-header_read}
use Rattle.cper_sections.specs.Sections.{kept_of, body_of}
use Rattle.cper_sections.specs.declared.kept.Section.{Section}
use Rattle.cper_normal.specs.Normal.{body_sizes, bodies_at, size_of, header_for, descriptor_for, descriptors_for, bodies_of, normal_of}
use Rattle.cper_sections.specs.Steps.{AllWithin}
use Rattle.cper_sections.proofs.KeptFrom.{kept_within}
use Rattle.cper_normal.proofs.Packed.{length-body, length-descriptor_for}

pub length_descriptors : (cper : List ℕ) (ks : List Section) (to : ℕ) → AllWithin cper ks → length (descriptors_for cper ks to) ≡ descriptor_size * length ks
unfolding descriptors_for
length_descriptors cper [] to i = refl
length_descriptors cper (k ∷ ks) to i =
    length-append (descriptor_for cper k to) (descriptors_for cper ks (to + k.size))
    ∙ omega (arith, length-descriptor_for cper k to i.0, length_descriptors cper ks (to + k.size) i.1)

pub length_bodies : (cper : List ℕ) (ks : List Section) → AllWithin cper ks → length (bodies_of cper ks) ≡ body_sizes ks
unfolding bodies_of body_sizes
length_bodies cper [] i = refl
length_bodies cper (k ∷ ks) i =
    length-append (body_of cper k) (bodies_of cper ks) ∙ omega (arith, length-body cper k i.0, length_bodies cper ks i.1)

pub length-header_for : (cper : List ℕ) (ks : List Section) → header_size ≤ length cper → length (header_for cper ks) ≡ header_size
length-header_for cper ks h = length-header_read cper (length ks) (size_of ks) (bits_of (header_of cper)) h

-- the length of the normal form
pub normal_length : (cper : List ℕ) → header_size ≤ length cper → length (normal_of cper) ≡ header_size + descriptor_size * length (kept_of cper) + body_sizes (kept_of cper)
unfolding normal_of
normal_length cper h =
    let ks = kept_of cper in
    let i = kept_within cper in
    simp length-append
    (omega (arith, length-header_for cper ks h, length_descriptors cper ks (bodies_at ks) i, length_bodies cper ks i))
