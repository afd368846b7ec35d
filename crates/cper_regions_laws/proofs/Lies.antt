-- Which sections are opened; the regions lie in the file; how many they, their bytes and the tries are at most.
-- By induction over the descriptors, of which each takes its own bytes. Assumes nothing.
use mathlib.Core.Path.{◌≡◌, refl, ap, ap₂, sym, ◌∙◌}
use mathlib.Core.List.{List, [], ◌∷◌}
use mathlib.Core.Bool.{Bool, true, false, cond}
use mathlib.Core.Logic.{◌↔◌, ⊎_elim}
use Prim.Native.Nat.{ℕ, zero, suc, ◌+◌, ◌-◌, ◌*◌, ◌/◌, ◌≤◌, ◌<◌}
use native.Mathlib.Omega.{arith}
use lib.Dec.{eqb, leb}
use lib.ListN.{length, take, drop, length-drop}
use lib.Seq.{length-take-le}
use borrow.Author.Tests.{le-leb, eqb-true, eq-eqb}
use Rattle.answers.specs.Numbers.{most_bytes}
use Rattle.basics.proofs.Bools.{both}
use Rattle.basics.proofs.Orders.{le_or_lt}
use Rattle.region_laws.specs.Clauses.{Every}
use Rattle.cper_header.specs.Record.{header_size, starts_with, count_of}
use Rattle.cper_descr.specs.Descriptor.{descriptor_size, type_at}
use Rattle.cper_sections.specs.Sections.{descriptor_at, told, keeps, kept_from, kept_of, body_of}
use Rattle.cper_sections.specs.Steps.{Within, AllWithin}
use Rattle.cper_sections.specs.declared.kept.Section.{Section}
use Rattle.cper_sections.proofs.KeptFrom.{keeps_within, kept_within}
use Rattle.cper_regions.specs.Regions.{firmware_error_record, section_header, identifier_at, is_firmware_error, is_identified, is_opened, Region, region_of, regions_in, regions_of}
use Rattle.cper_regions.specs.Listing.{cper_listed}
use Rattle.cper_regions.proofs.Openings.{opened_long, region_part}
use Rattle.cper_regions_laws.specs.Positions.{total_of, total}
use Rattle.cper_regions_laws.specs.Lies.{Lies, guid_size, Named}
use Rattle.cper_regions_laws.proofs.Refusals.{refused_long}
use Rattle.cper_regions_laws.proofs.Bounds.{tries_five_times_total}

-- ---- which sections are opened

-- bytes start with others exactly where those are the first of them
starts_exactly : (xs bs : List ℕ) → (starts_with xs bs ≡ true) ↔ (take (length xs) bs ≡ xs)
unfolding starts_with
starts_exactly [] bs = (λ e. refl, λ e. refl)
starts_exactly (x ∷ xs) [] = (λ e. absurd (let z : ◌≡◌ {A = ℕ} 0 1 = cc in omega arith), λ e. absurd (let z : ◌≡◌ {A = ℕ} 0 1 = cc in omega arith))
starts_exactly (x ∷ xs) (b ∷ bs) = (
  λ e. let q = both (eqb b x) (starts_with xs bs) e in ap₂ (λ (y : ℕ) (ys : List ℕ). y ∷ ys) (eqb-true b x q.0) ((starts_exactly xs bs).0 q.1),
  λ e.
      let first : b ≡ x = cc in
      let rest : take (length xs) bs ≡ xs = cc in
      rw (eq-eqb b x first, (starts_exactly xs bs).1 rest),
)

module _ (cper id : List ℕ) (k : Section) where
  abbrev type_bytes : List ℕ
  type_bytes = drop (descriptor_at k.index + type_at) cper

  abbrev id_bytes : List ℕ
  id_bytes = drop identifier_at (body_of cper k)

  -- document 02, C-15, for an identifier of sixteen bytes
  pub opened_exactly : length id ≡ guid_size → (is_opened cper id k ≡ true) ↔ Named cper id k
  opened_exactly sixteen = (
    λ e.
        let q = both (is_firmware_error cper k) (is_identified cper id k) e in
        let r = both (leb section_header k.size) (starts_with id id_bytes) q.1 in
        record {
          type = (starts_exactly firmware_error_record type_bytes).0 q.0;
          long = opened_long cper id k e;
          identifier = rw sixteen at ((starts_exactly id id_bytes).0 r.1);
        },
    λ n.
        rw (
          (starts_exactly firmware_error_record type_bytes).1 n.type,
          le-leb section_header k.size n.long,
          (starts_exactly id id_bytes).1 (rw sixteen n.identifier),
        ),
  )

-- ---- where the regions lie

region_lies : (cper : List ℕ) (k : Section) → Within cper k → section_header ≤ k.size → Lies cper (region_of cper k)
region_lies cper k w long =
    let from = drop (k.offset + section_header) cper in
    let left = k.offset + k.size - (k.offset + section_header) in
    let body : k.offset + k.size ≤ length cper = w.body in
    let n : length (region_of cper k).bytes ≡ left =
    ap length (sym (region_part cper k long)) ∙ length-take-le left from (omega (arith, length-drop (k.offset + section_header) cper)) in
    record { inside = omega arith; is = sym (region_part cper k long) ∙ ap (λ (m : ℕ). take m from) (sym n) }

module _ (cper id : List ℕ) where
  regions_in_lem : (ks : List Section) → AllWithin cper ks → Every (Lies cper) (regions_in cper id ks)
  unfolding regions_in Every
  regions_in_lem [] w = tt
  regions_in_lem (k ∷ ks) w = by (is_opened cper id k) refl (regions_in_lem ks w.1)
    where
      by : (b : Bool) → is_opened cper id k ≡ b → Every (Lies cper) (regions_in cper id ks) → Every (Lies cper) (cond b (region_of cper k ∷ regions_in cper id ks) (regions_in cper id ks))
      by true e rest = (region_lies cper k w.0 (opened_long cper id k e), rest)
      by false e rest = rest

  -- each region is the file's bytes from its offset on
  pub regions_lie : Every (Lies cper) (regions_of cper id)
  unfolding regions_of
  regions_lie = regions_in_lem (kept_of cper) (kept_within cper)

  -- ---- how many

  regions_le : (ks : List Section) → length (regions_in cper id ks) ≤ length ks
  unfolding regions_in
  regions_le [] = omega arith
  regions_le (k ∷ ks) = by (is_opened cper id k) (regions_le ks)
    where
      by : (b : Bool) → length (regions_in cper id ks) ≤ length ks → length (cond b (region_of cper k ∷ regions_in cper id ks) (regions_in cper id ks)) ≤ suc (length ks)
      by true h = omega arith
      by false h = omega arith

  -- the descriptors that the file has bytes for, from the one at an index on
  abbrev room_from : ℕ → ℕ
  room_from i = (length cper - header_size) / descriptor_size - i

  kept_le : (i n : ℕ) → length (kept_from cper i n) ≤ room_from i
  unfolding kept_from
  kept_le i zero = omega arith
  kept_le i (suc n) = by (keeps cper i) refl (kept_le (suc i) n)
    where
      by : (b : Bool) → keeps cper i ≡ b → length (kept_from cper (suc i) n) ≤ room_from (suc i)
          → length (cond b (told cper i ∷ kept_from cper (suc i) n) (kept_from cper (suc i) n)) ≤ room_from i
      by true e h =
          let w : descriptor_at i + descriptor_size ≤ length cper = (keeps_within cper i e).descriptor in
          let q : suc i ≤ (length cper - header_size) / descriptor_size = omega arith in
          omega arith
      by false e h = omega arith

  module _ (short : length cper ≤ most_bytes) where
    pub region_count : length (regions_of cper id) ≤ 14561
    unfolding regions_of kept_of
    region_count =
        let a : length (regions_in cper id (kept_from cper 0 (count_of cper))) ≤ length (kept_from cper 0 (count_of cper)) = regions_le (kept_from cper 0 (count_of cper)) in
        let b : length (kept_from cper 0 (count_of cper)) ≤ room_from 0 = kept_le 0 (count_of cper) in
        omega arith

    total_le : (gs : List Region) → Every (Lies cper) gs → total gs ≤ most_bytes * length gs
    unfolding total_of Every
    total_le [] l = omega arith
    total_le (g ∷ gs) l =
        let a : g.offset + length g.bytes ≤ length cper = l.0.inside in
        let b : total gs ≤ most_bytes * length gs = total_le gs l.1 in
        omega arith

    pub total_fits : total (regions_of cper id) ≤ 15268315136
    total_fits =
        let a : total (regions_of cper id) ≤ most_bytes * length (regions_of cper id) = total_le (regions_of cper id) regions_lie in
        let b : length (regions_of cper id) ≤ 14561 = region_count in
        omega arith

-- the tries of every listing, which 64 bits hold
pub tries_fit : (rules cper id : List ℕ) (limit : ℕ) (t : List ℕ) → (cper_listed rules cper id limit t).1.tries ≤ 76341575680
tries_fit rules cper id limit t =
    ⊎_elim
    (λ (h : length cper ≤ most_bytes).
    let a : (cper_listed rules cper id limit t).1.tries ≤ 5 * total (regions_of cper id) = tries_five_times_total rules cper id limit t in
    let b : total (regions_of cper id) ≤ 15268315136 = total_fits cper id h in
    omega arith)
    (λ (h : most_bytes < length cper). rw (refused_long rules cper id limit t h) (omega arith))
    (le_or_lt (length cper) most_bytes)
