-- The kept sections from an index on, as a loop meets them; each lies in the input.
-- By cases on whether the next descriptor's section is kept. Assumes nothing.
use mathlib.Core.Path.{◌≡◌, refl, ap, ap₂, ◌∙◌}
use mathlib.Core.List.{List, [], ◌∷◌}
use mathlib.Core.Bool.{Bool, true, false, cond}
use Prim.Native.Nat.{ℕ, zero, suc, ◌+◌, ◌-◌, ◌≤◌, ◌<◌}
use native.Mathlib.Nat.{sub-zero}
use native.Mathlib.Omega.{arith}
use lib.Dec.{leb}
use lib.ListN.{length}
use borrow.Author.Tests.{leb-true}
use Rattle.std.specs.Prelude.{Result, Ok, Err}
use Rattle.basics.proofs.Bools.{both}
use Rattle.cper_header.specs.Record.{count_of}
use Rattle.cper_descr.specs.Descriptor.{descriptor_size}
use Rattle.cper_sections.specs.Answers.{check_of, after}
use Rattle.cper_sections.specs.Sections.{descriptor_at, told, keeps, kept_from, kept_of, place_in, place_of}
use Rattle.cper_sections.specs.Steps.{Within, AllWithin, kept_in}
use Rattle.cper_sections.specs.declared.kept.Section.{Section}
use Rattle.cper_sections.specs.declared.Place.{Place}
use Rattle.cper_sections.specs.declared.Refusal.{Refusal}

-- ---- from an index on

-- all descriptors are left
pub kept_start : (cper : List ℕ) (n : ℕ) → n ≡ count_of cper → kept_in cper 0 n ≡ kept_of cper
unfolding kept_of
kept_start cper n e = ap (kept_from cper 0) (sub-zero n ∙ e)

-- none is
pub kept_end : (cper : List ℕ) (i n : ℕ) → n ≤ i → kept_in cper i n ≡ []
unfolding kept_from
kept_end cper i n h = let e : n - i ≡ 0 = omega arith in ap (kept_from cper i) e

-- one is
pub kept_next : (cper : List ℕ) (i n : ℕ) (kept : Bool) → i < n → keeps cper i ≡ kept
    → kept_in cper i n ≡ cond kept (told cper i ∷ kept_in cper (i + 1) n) (kept_in cper (i + 1) n)
unfolding kept_from
kept_next cper i n kept h e =
    let more : n - i ≡ suc (n - (i + 1)) = omega arith in
    let after : suc i ≡ i + 1 = omega arith in
    ap (kept_from cper i) more
    ∙ ap₂ (λ (t : Bool) (j : ℕ). cond t (told cper i ∷ kept_from cper j (n - (i + 1))) (kept_from cper j (n - (i + 1)))) e after

-- at most as many are kept as there are descriptors
length-kept_from : (cper : List ℕ) (i n : ℕ) → length (kept_from cper i n) ≤ n
unfolding kept_from
length-kept_from cper i zero = omega arith
length-kept_from cper i (suc n) = by_kept (keeps cper i) (length-kept_from cper (suc i) n)
  where
    by_kept : (t : Bool) → length (kept_from cper (suc i) n) ≤ n → length (cond t (told cper i ∷ kept_from cper (suc i) n) (kept_from cper (suc i) n)) ≤ suc n
    by_kept true h = omega arith
    by_kept false h = omega arith

pub length-kept : (cper : List ℕ) → length (kept_of cper) ≤ count_of cper
unfolding kept_of
length-kept cper = length-kept_from cper 0 (count_of cper)

-- ---- where the sections lie

pub keeps_within : (cper : List ℕ) (i : ℕ) → keeps cper i ≡ true → Within cper (told cper i)
keeps_within cper i e =
    let q = both (leb (descriptor_at i + descriptor_size) (length cper)) (leb ((told cper i).offset + (told cper i).size) (length cper)) e in
    record {
      descriptor = leb-true (descriptor_at i + descriptor_size) (length cper) q.0;
      body = leb-true ((told cper i).offset + (told cper i).size) (length cper) q.1;
    }

kept_from_within : (cper : List ℕ) (i n : ℕ) → AllWithin cper (kept_from cper i n)
unfolding kept_from
kept_from_within cper i zero = tt
kept_from_within cper i (suc n) = by_kept (keeps cper i) refl (kept_from_within cper (suc i) n)
  where
    by_kept : (t : Bool) → keeps cper i ≡ t → AllWithin cper (kept_from cper (suc i) n) → AllWithin cper (cond t (told cper i ∷ kept_from cper (suc i) n) (kept_from cper (suc i) n))
    by_kept true e rest = (keeps_within cper i e, rest)
    by_kept false e rest = rest

-- all of them in the input
pub kept_within : (cper : List ℕ) → AllWithin cper (kept_of cper)
unfolding kept_of
kept_within cper = kept_from_within cper 0 (count_of cper)

-- a place that is told lies in the input
abbrev pub PlaceWithin : List ℕ → Result Place Refusal → Type 0
PlaceWithin cper (Ok place) = place.offset + place.length ≤ length cper
PlaceWithin cper (Err _) = Unit {0}

place_in_within : (cper : List ℕ) (ks : List Section) → AllWithin cper ks → (row : ℕ) → PlaceWithin cper (place_in ks row)
unfolding place_in
place_in_within cper [] i row = tt
place_in_within cper (k ∷ ks) i zero = i.0.body
place_in_within cper (k ∷ ks) i (suc row) = place_in_within cper ks i.1 row

place_in_lem : (cper : List ℕ) (i n row : ℕ) → PlaceWithin cper (place_in (kept_from cper i n) row)
place_in_lem cper i n row = place_in_within cper (kept_from cper i n) (kept_from_within cper i n) row

pub place_within : (cper : List ℕ) (row : ℕ) → PlaceWithin cper (place_of cper row)
unfolding place_of kept_of
place_within cper row = by (check_of cper)
  where
    by : (check : Result (Unit {0}) Refusal) → PlaceWithin cper (after check Err (place_in (kept_of cper) row))
    by (Ok _) = place_in_lem cper 0 (count_of cper) row
    by (Err _) = tt
