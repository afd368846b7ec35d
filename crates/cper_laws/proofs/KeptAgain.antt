-- Every kept section of a CPER is kept again in its normal form, in order, with the same body.
-- By reading back the header and the descriptors that were written. Assumes nothing.
use mathlib.Core.Path.{◌≡◌, sym, ap, ◌∙◌}
use mathlib.Core.List.{List, [], ◌++◌, append-nil}
use mathlib.Core.Bool.{true}
use Prim.Native.Nat.{ℕ, ◌*◌, ◌^◌, ◌≤◌, ◌<◌}
use native.Mathlib.Omega.{arith}
use lib.ListN.{length, get_or}
use lib.Seq.{drop_at}
use Rattle.le.proofs.Laws.{le_lt}
use Rattle.cper_header.specs.Record.{header_size, is_cper, count_of}
use Rattle.cper_header.specs.Header.{header_of, counted, normal_header}
use Rattle.cper_descr.specs.Descriptor.{descriptor_size}
use Rattle.cper_sections.specs.Sections.{kept_from, kept_of}
use Rattle.cper_normal.specs.Normal.{bodies_at, size_of, header_for, descriptors_for, bodies_of, normal_of, most_output}
use Rattle.cper_sections.proofs.KeptFrom.{length-kept, kept_within}
use Rattle.cper_laws.specs.Again.{repacked, body_list}
use Rattle.cper_laws.proofs.Length.{length_descriptors, length-header_for, normal_length}
use Rattle.cper_laws.proofs.Reading.{From, past}
use Rattle.cper_laws.proofs.HeaderAgain.{Plain, header_plain, header_again, count_again, cper_again}
use Rattle.cper_laws.proofs.SectionsAgain.{kept_sized, sections_again, bodies_again}

module _ (cper : List ℕ) (bytes : (k : ℕ) → get_or cper k 0 < 256) (whole : header_size ≤ length cper) (small : size_of (kept_of cper) ≤ most_output) where
  few : length (kept_of cper) < 256 ^ 2
  few = let h = le_lt cper bytes 10 2 in omega (arith, length-kept cper)

  pub plain : Plain (normal_header (counted (length (kept_of cper)) (size_of (kept_of cper)) (header_of cper)))
  plain = header_plain cper bytes whole (length (kept_of cper)) (size_of (kept_of cper)) few (omega arith)

  -- where the descriptors and the bodies stand
  pub descriptors_stand : From (normal_of cper) header_size (descriptors_for cper (kept_of cper) (bodies_at (kept_of cper)) ++ bodies_of cper (kept_of cper))
  unfolding normal_of
  descriptors_stand =
      let ks = kept_of cper in
      record { is = drop_at (header_for cper ks) (descriptors_for cper ks (bodies_at ks) ++ bodies_of cper ks) header_size (length-header_for cper ks whole) }

  pub bodies_stand : From (normal_of cper) (bodies_at (kept_of cper)) (bodies_of cper (kept_of cper) ++ [])
  bodies_stand =
      let ks = kept_of cper in
      let bodies =
      past (descriptor_size * length ks) (descriptors_for cper ks (bodies_at ks)) (bodies_of cper ks) (length_descriptors cper ks (bodies_at ks) (kept_within cper)) descriptors_stand in
      record { is = bodies.is ∙ sym (append-nil (bodies_of cper ks)) }

  pub normal_is_cper : is_cper (normal_of cper) ≡ true
  unfolding normal_of
  normal_is_cper =
      let ks = kept_of cper in
      cper_again (normal_header (counted (length ks) (size_of ks) (header_of cper))) plain (descriptors_for cper ks (bodies_at ks) ++ bodies_of cper ks)
      (omega (arith, normal_length cper whole))

  normal_count : count_of (normal_of cper) ≡ length (kept_of cper)
  unfolding normal_of
  normal_count =
      let ks = kept_of cper in
      count_again (normal_header (counted (length ks) (size_of ks) (header_of cper))) plain (descriptors_for cper ks (bodies_at ks) ++ bodies_of cper ks)

  pub normal_header_lem : header_of (normal_of cper) ≡ normal_header (counted (length (kept_of cper)) (size_of (kept_of cper)) (header_of cper))
  unfolding normal_of
  normal_header_lem =
      let ks = kept_of cper in
      header_again (normal_header (counted (length ks) (size_of ks) (header_of cper))) plain (descriptors_for cper ks (bodies_at ks) ++ bodies_of cper ks)

  -- the sections that the normal form keeps: all, packed
  pub kept_again : kept_of (normal_of cper) ≡ repacked 0 (bodies_at (kept_of cper)) (kept_of cper)
  unfolding kept_of
  kept_again =
      let ks = kept_of cper in
      let size = normal_length cper whole in
      ap (kept_from (normal_of cper) 0) normal_count
      ∙ sections_again cper bytes (normal_of cper) ks 0 (bodies_at ks) (bodies_of cper ks) (kept_within cper) (kept_sized cper) (omega arith) (omega arith) descriptors_stand

  -- with the same bodies, in order
  pub same_bodies : body_list (normal_of cper) (kept_of (normal_of cper)) ≡ body_list cper (kept_of cper)
  same_bodies =
      let ks = kept_of cper in
      ap (body_list (normal_of cper)) kept_again ∙ (bodies_again cper bytes (normal_of cper) ks 0 (bodies_at ks) [] (kept_within cper) bodies_stand).0
