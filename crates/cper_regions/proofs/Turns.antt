-- The regions of sections, walked one after the other: none, one that is opened or not, and one before the others; a walk that is cut off stays as it is.
-- By the runs of tries. Assumes nothing.
use mathlib.Core.Path.{◌≡◌, refl, ap, sym, ◌∙◌}
use mathlib.Core.List.{List, [], ◌∷◌}
use mathlib.Core.Bool.{Bool, true, false}
use mathlib.Core.Logic.{⊎_elim}
use Prim.Native.Nat.{ℕ, ◌+◌}
use lib.ListN.{length}
use Rattle.region_rows.specs.Rows.{top}
use Rattle.region_try.specs.Tries.{deepest, rows_found}
use Rattle.region_try.specs.Steps.{Walk, state, run}
use Rattle.region_try.specs.declared.Cut.{Cut}
use Rattle.region_try.specs.declared.Cut.TheVariants.{Going}
use Rattle.region_try.specs.declared.State.{State}
use Rattle.region_try.proofs.Runs.{going_or_not, run_none, run_append, run_cut, run_rows}
use Rattle.region_walk.specs.Steps.{counts_of, going, region_run}
use Rattle.region_walk.specs.declared.bounds.Bounds.{Bounds}
use Rattle.region_walk.specs.declared.Walked.{Walked}
use Rattle.region_walk.proofs.Ends.{end_counts}
use Rattle.cper_sections.specs.declared.kept.Section.{Section}
use Rattle.cper_regions.specs.Regions.{section_header, is_opened, Region, region_of, regions_in}
use Rattle.cper_regions.specs.Listing.{tries_in, joined_tries}
use Rattle.cper_regions.specs.Steps.{sections_run}

-- ---- regions

module _ (limit room : ℕ) (rules : List ℕ) where
  -- some regions, walked from where a walk stands
  abbrev joined : List Region → Walk → Walk
  joined gs m = run limit room (joined_tries rules gs m.1.rows) m

  -- one of them
  abbrev alone : Region → Walk → Walk
  alone g m = run limit room (tries_in rules g m.1.rows) m

  joined_none : (m : Walk) → joined [] m ≡ m
  unfolding joined_tries
  joined_none m = run_none limit room m

  -- the others follow where it ends
  joined_cons : (g : Region) (gs : List Region) (m : Walk) → joined (g ∷ gs) m ≡ joined gs (alone g m)
  unfolding joined_tries
  joined_cons g gs m =
      let rows = m.1.rows + length (rows_found (tries_in rules g m.1.rows)) in
      run_append limit room (tries_in rules g m.1.rows) (joined_tries rules gs rows) m
      ∙ ⊎_elim
      (λ (goes : (alone g m).1.cut ≡ Going).
      ap (λ (n : ℕ). run limit room (joined_tries rules gs n) (alone g m)) (sym (run_rows limit room (tries_in rules g m.1.rows) m goes)))
      (λ (cut : (alone g m).1.cut ≡ Going → ⊥).
      run_cut limit room (joined_tries rules gs rows) (alone g m) cut ∙ sym (run_cut limit room (joined_tries rules gs (alone g m).1.rows) (alone g m) cut))
      (going_or_not (alone g m).1.cut)

-- ---- sections

module _ (cper id : List ℕ) (b : Bounds) where
  abbrev walk : List Section → Walk → Walk
  walk ks m = sections_run cper id b ks m

  pub walk_none : (m : Walk) → walk [] m ≡ m
  unfolding regions_in
  walk_none m = joined_none b.limit b.room b.rules.now m

  walk_cut : (ks : List Section) (m : Walk) → (m.1.cut ≡ Going → ⊥) → walk ks m ≡ m
  walk_cut ks m cut = run_cut b.limit b.room (joined_tries b.rules.now (regions_in cper id ks) m.1.rows) m cut

  module _ (k : Section) (m : Walk) where
    pub walk_unopened : (ks : List Section) → is_opened cper id k ≡ false → walk (k ∷ ks) m ≡ walk ks m
    unfolding regions_in
    walk_unopened ks e = rw e

    walk_opened : (ks : List Section) → is_opened cper id k ≡ true
        → walk (k ∷ ks) m ≡ walk ks (alone b.limit b.room b.rules.now (region_of cper k) m)
    unfolding regions_in
    walk_opened ks e = rw e (joined_cons b.limit b.room b.rules.now (region_of cper k) (regions_in cper id ks) m)

    -- the counts of the walk of its region
    pub walk_region : is_opened cper id k ≡ true → {bytes : List ℕ} → bytes ≡ (region_of cper k).bytes
        → {t : List ℕ} {w : Walked} → ◌≡◌ {A = List ℕ × Walked} (t, w) (region_run b deepest bytes (k.offset + section_header) top m)
        → ◌≡◌ {A = Walk} (t, counts_of w) (walk (k ∷ []) m)
    walk_region e p f = end_counts _ _ (f ∙ ap (λ (bytes : List ℕ). region_run b deepest bytes (k.offset + section_header) top m) p) ∙ sym (walk_opened [] e ∙ walk_none _)

    -- the others follow where one section's walk ends
    walk_cons : (ks : List Section) → walk (k ∷ ks) m ≡ walk ks (walk (k ∷ []) m)
    walk_cons ks = by (is_opened cper id k) refl
      where
        by : (b : Bool) → is_opened cper id k ≡ b → walk (k ∷ ks) m ≡ walk ks (walk (k ∷ []) m)
        by true e = walk_opened ks e ∙ ap (walk ks) (sym (walk_opened [] e ∙ walk_none _))
        by false e = walk_unopened ks e ∙ ap (walk ks) (sym (walk_unopened [] e ∙ walk_none m))

    module _ (ks : List Section) {t : List ℕ} {s : State} (made : ◌≡◌ {A = Walk} (t, s) (walk (k ∷ []) m)) where
      pub walk_next : s.cut ≡ Going → walk ks (going t s.rows s.tries s.whole) ≡ walk (k ∷ ks) m
      walk_next g = ap (λ (cut : Cut). walk ks (t, state s.rows s.tries s.whole cut)) (sym g) ∙ ap (walk ks) made ∙ sym (walk_cons ks)

      pub walk_ends : (s.cut ≡ Going → ⊥) → (t, s) ≡ walk (k ∷ ks) m
      walk_ends cut = sym (walk_cons ks ∙ ap (walk ks) (sym made) ∙ walk_cut ks (t, s) cut)
