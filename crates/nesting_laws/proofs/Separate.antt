-- Where no two regions of a CPER share a byte, no two rows of its listing cross.
-- Rows of one region do not, and those of two lie each in their own; by induction over the regions. Assumes nothing.
use mathlib.Core.List.{List, [], ◌∷◌}
use mathlib.Core.Logic.{◌⊎◌, inl, inr, ⊎_elim}
use Prim.Native.Nat.{ℕ, ◌+◌, ◌≤◌}
use native.Mathlib.Omega.{arith}
use lib.ListN.{length, drop}
use Rattle.region_rows.specs.declared.Span.{Span}
use Rattle.region_laws.specs.Clauses.{Every, rows_of}
use Rattle.cper_regions.specs.Regions.{Region, regions_of}
use Rattle.cper_regions.specs.Listing.{cper_listed}
use Rattle.nesting_laws.specs.Nesting.{end, At, Stand, apart, second_inside, first_inside, NeverCross}
use Rattle.nesting_laws.specs.Sections.{row_count, NestedEach, Separate, AllSeparate}
use Rattle.nesting_laws.proofs.Numbers.{Part, at_none, at_taken, at_dropped, at_parted, ancestor_of_part}
use Rattle.nesting_laws.proofs.Sections.{sections_nested}

stand_of_part : {m n i j : ℕ} {part rows : List Span} {a b : Span} → Part m part n rows → Stand m part i j a b → Stand n rows i j a b
stand_of_part of (apart h) = apart h
stand_of_part of (second_inside h a) = second_inside h (ancestor_of_part of a)
stand_of_part of (first_inside h a) = first_inside h (ancestor_of_part of a)

-- what a row holds ends before a region, or starts after it
abbrev Beside : Region → Span → Type 0
Beside g r = (end r ≤ g.offset) ⊎ (g.offset + length g.bytes ≤ r.offset)

module _ (rules : List ℕ) where
  -- rows of regions that are separate from another
  beside : (g : Region) (gs : List Region) (n : ℕ) (rows : List Span) → NestedEach rules gs n rows → Every (Separate g) gs
      → {i : ℕ} {r : Span} → At n rows i r → Beside g r
  unfolding NestedEach Every
  beside g [] n rows none all at = at_none (rw none at at)
  beside g (h ∷ gs) n rows nested all {i} {r} at =
      at_parted (row_count rules h) rows at
      (λ u.
      let lie = nested.0.rows_lie i r u in
      ⊎_elim
      (λ w. inr (omega arith))
      (λ w. inl (omega arith))
      all.0)
      (λ u. beside g gs (n + row_count rules h) (drop (row_count rules h) rows) nested.1 all.1 u)

  separate_never_cross : (gs : List Region) (n : ℕ) (rows : List Span) → NestedEach rules gs n rows → AllSeparate gs → NeverCross n rows
  unfolding NestedEach AllSeparate
  separate_never_cross [] n rows none all i j a b u v ne = at_none (rw none at u)
  separate_never_cross (g ∷ gs) n rows nested all i j a b u v ne =
      let c = row_count rules g in
      let others = drop c rows in
      at_parted c rows u
      (λ u₁.
      let lie = nested.0.rows_lie i a u₁ in
      at_parted c rows v
      (λ v₁. stand_of_part (λ x s h. at_taken c rows h) (nested.0.never_cross i j a b u₁ v₁ ne))
      (λ v₁.
      ⊎_elim
      (λ (w : end b ≤ g.offset). apart (λ k f h. omega arith))
      (λ (w : g.offset + length g.bytes ≤ b.offset). apart (λ k f h. omega arith))
      (beside g gs (n + c) others nested.1 all.0 v₁)))
      (λ u₁.
      at_parted c rows v
      (λ v₁.
      let lie = nested.0.rows_lie j b v₁ in
      ⊎_elim
      (λ (w : end a ≤ g.offset). apart (λ k f h. omega arith))
      (λ (w : g.offset + length g.bytes ≤ a.offset). apart (λ k f h. omega arith))
      (beside g gs (n + c) others nested.1 all.0 u₁))
      (λ v₁. stand_of_part (λ x s h. at_dropped c rows h) (separate_never_cross gs (n + c) others nested.1 all.1 i j a b u₁ v₁ ne)))

pub sections_never_cross : (rules cper id : List ℕ) (limit : ℕ) (t : List ℕ) → AllSeparate (regions_of cper id)
    → NeverCross 0 (rows_of (cper_listed rules cper id limit t))
sections_never_cross rules cper id limit t all =
    separate_never_cross rules (regions_of cper id) 0 (rows_of (cper_listed rules cper id limit t)) (sections_nested rules cper id limit t) all
