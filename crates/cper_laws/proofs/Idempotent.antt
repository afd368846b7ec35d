-- Normalising a normal form changes nothing.
-- Its header, its descriptors and its bodies are read as they were written. Assumes nothing.
use mathlib.Core.Path.{◌≡◌, refl, sym, ap, ap₂, ◌∙◌}
use mathlib.Core.List.{List, [], ◌∷◌, ◌++◌}
use Prim.Native.Nat.{ℕ, ◌+◌, ◌≤◌, ◌<◌}
use native.Mathlib.Omega.{arith}
use lib.ListN.{length, get_or, drop}
use borrow.Author.Tests.{le-leb}
use Rattle.cper_header.specs.Record.{header_size}
use Rattle.cper_header.specs.Header.{header_of, counted, normal_header, header_bytes}
use Rattle.cper_header.specs.declared.CperHeader.{CperHeader}
use Rattle.answers.specs.Numbers.{most_bytes}
use Rattle.cper_sections.specs.Sections.{descriptor_at, kept_of}
use Rattle.std.specs.Prelude.{Ok, Err}
use Rattle.cper_sections.specs.declared.kept.Section.{Section}
use Rattle.cper_normal.specs.Normal.{body_sizes, bodies_at, size_of, header_for, descriptors_for, bodies_of, record_of, normal_of, most_output, packed_in, normalised_of}
use Rattle.cper_sections.proofs.Checked.{a_cper}
use Rattle.cper_sections.proofs.KeptFrom.{kept_within}
use Rattle.cper_laws.specs.Again.{repacked}
use Rattle.cper_laws.proofs.Length.{normal_length}
use Rattle.cper_laws.proofs.SectionsAgain.{descriptors_again, bodies_again}
use Rattle.cper_laws.proofs.KeptAgain.{descriptors_stand, bodies_stand, normal_is_cper, normal_header_lem, kept_again}

length-repacked : (row to : ℕ) (ks : List Section) → length (repacked row to ks) ≡ length ks
unfolding repacked
length-repacked row to [] = refl
length-repacked row to (k ∷ ks) = let e = length-repacked (row + 1) (to + k.size) ks in omega arith

sizes_repacked : (row to : ℕ) (ks : List Section) → body_sizes (repacked row to ks) ≡ body_sizes ks
unfolding repacked body_sizes
sizes_repacked row to [] = refl
sizes_repacked row to (k ∷ ks) = ap (λ (n : ℕ). k.size + n) (sizes_repacked (row + 1) (to + k.size) ks)

module _ (cper : List ℕ) (bytes : (k : ℕ) → get_or cper k 0 < 256) (whole : header_size ≤ length cper) (small : size_of (kept_of cper) ≤ most_output) where
  again_size : size_of (repacked 0 (bodies_at (kept_of cper)) (kept_of cper)) ≡ size_of (kept_of cper)
  again_size = let ks = kept_of cper in omega (arith, length-repacked 0 (bodies_at ks) ks, sizes_repacked 0 (bodies_at ks) ks)

  pub idempotent : normal_of (normal_of cper) ≡ normal_of cper
  unfolding normal_of
  idempotent =
      let ks = kept_of cper in
      let new = normal_of cper in
      let ns = repacked 0 (bodies_at ks) ks in
      let i = kept_within cper in
      let start : bodies_at ns ≡ bodies_at ks = ap (λ (n : ℕ). descriptor_at n) (length-repacked 0 (bodies_at ks) ks) in
      let header : header_for new ns ≡ header_for cper ks =
      ap₂ (λ (n m : ℕ). header_bytes (normal_header (counted n m (header_of new)))) (length-repacked 0 (bodies_at ks) ks) again_size
      ∙ ap (λ (h : CperHeader). header_bytes (normal_header (counted (length ks) (size_of ks) h))) (normal_header_lem cper bytes whole small) in
      let descriptors : descriptors_for new ns (bodies_at ns) ≡ descriptors_for cper ks (bodies_at ks) =
      ap (descriptors_for new ns) start
      ∙ descriptors_again cper bytes new ks 0 (bodies_at ks) (bodies_of cper ks) i small (descriptors_stand cper bytes whole small) in
      let bodies : bodies_of new ns ≡ bodies_of cper ks = (bodies_again cper bytes new ks 0 (bodies_at ks) [] i (bodies_stand cper bytes whole small)).1 in
      ap (record_of new) (kept_again cper bytes whole small)
      ∙ ap₂ (λ (h rest : List ℕ). h ++ rest) header (ap₂ (λ (ds bs : List ℕ). ds ++ bs) descriptors bodies)

  -- so the call on a normal form within the length limit writes it as it is
  pub normalise_again : length (normal_of cper) ≤ most_bytes → (out : List ℕ) → length (normal_of cper) ≤ length out
      → normalised_of (normal_of cper) out ≡ (normal_of cper ++ drop (length (normal_of cper)) out, Ok (length (normal_of cper)))
  unfolding normalised_of packed_in
  normalise_again short out room =
      let new = normal_of cper in
      let size : size_of (kept_of new) ≡ length new = ap size_of (kept_again cper bytes whole small) ∙ again_size ∙ sym (normal_length cper whole) in
      sym (a_cper new (λ refusal. (out, Err refusal)) (packed_in new out) short (normal_is_cper cper bytes whole small))
      ∙ rw (le-leb (size_of (kept_of new)) (length out) (omega arith), le-leb (size_of (kept_of new)) most_output (omega arith))
      (ap₂ (λ (l : List ℕ) (n : ℕ). (l ++ drop n out, Ok n)) idempotent size)
