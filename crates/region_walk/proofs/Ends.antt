-- How a region's walk ends, by the first of its tries: at no try, where the try cuts it off, where the region stops at it, and where it goes on.
-- By the run of one try, and by what stands where the region stops. Assumes nothing.
use mathlib.Core.Path.{◌≡◌, refl, ap, ap₂, ◌∙◌}
use mathlib.Core.List.{List, [], ◌∷◌}
use Prim.Native.Nat.{ℕ, ◌-◌}
use Rattle.header_judge.specs.Head.{Head}
use Rattle.region_try.specs.Stops.{Standing, unknown, no_byte, header, standing_told}
use Rattle.region_try.specs.Tries.{Try, none, try_of, deepest}
use Rattle.region_try.specs.Steps.{Walk, step, run}
use Rattle.region_try.specs.declared.Cut.{Cut}
use Rattle.region_try.specs.declared.Cut.TheVariants.{Going, Full, Spent}
use Rattle.region_try.proofs.Stops.{stands_none, stands_here}
use Rattle.region_try.proofs.Runs.{run_none, run_cons, run_cut}
use Rattle.region_walk.specs.Steps.{counts_of, end_telling, end_where, stands_in, region_end}
use Rattle.region_walk.specs.declared.Walked.{Walked}

-- ---- a walk that is cut off

-- its end, of which nothing is told
abbrev pub cut_off : Walk → List ℕ × Walked
cut_off m = end_telling unknown m

cut_unknown : (cut : Cut) (standing : Standing) → (cut ≡ Going → ⊥) → standing_told cut standing ≡ unknown
cut_unknown Going standing f = absurd (f refl)
cut_unknown Full standing f = refl
cut_unknown Spent standing f = refl

pub end_cut : (standing : Standing) (m : Walk) → (m.1.cut ≡ Going → ⊥) → end_where standing m ≡ cut_off m
end_cut standing m f = ap (λ (s : Standing). end_telling s m) (cut_unknown m.1.cut standing f)

-- ---- by the first try

module _ (limit room levels : ℕ) where
  abbrev ends : List Try → Walk → List ℕ × Walked
  ends vs m = region_end limit room levels vs m

  pub ends_none : (m : Walk) → ends [] m ≡ end_where no_byte m
  ends_none m = ap₂ end_where (stands_none (deepest - levels)) (run_none limit room m)

  module _ (v : Try) (m m₁ : Walk) (made : step limit room v m ≡ m₁) where
    run_first : (vs : List Try) → run limit room (v ∷ vs) m ≡ run limit room vs m₁
    run_first vs = run_cons limit room v vs m ∙ ap (run limit room vs) made

    pub ends_cut : (vs : List Try) → (m₁.1.cut ≡ Going → ⊥) → ends (v ∷ vs) m ≡ cut_off m₁
    ends_cut vs f = ap (end_where (stands_in levels (v ∷ vs))) (run_first vs ∙ run_cut limit room vs m₁ f) ∙ end_cut (stands_in levels (v ∷ vs)) m₁ f

    pub ends_on : (vs : List Try) → stands_in levels (v ∷ vs) ≡ stands_in levels vs → ends (v ∷ vs) m ≡ ends vs m₁
    ends_on vs e = ap₂ end_where e (run_first vs)

  -- the region's own try finds no record
  pub ends_stop : (parent offset left : ℕ) (head : Head) {l o : ℕ} {h : Head} (m m₁ : Walk) → try_of (deepest - levels) parent offset left head ≡ none l o h
      → step limit room (try_of (deepest - levels) parent offset left head) m ≡ m₁
      → ends (try_of (deepest - levels) parent offset left head ∷ []) m ≡ end_where (header h) m₁
  ends_stop parent offset left head m m₁ is made =
      ap₂ end_where (stands_here (deepest - levels) parent offset left head [] is)
      (run_first (try_of (deepest - levels) parent offset left head) m m₁ made [] ∙ run_none limit room m₁)

-- ---- the counts alone

-- those at the end of a walk are the walk's
pub end_counts : (standing : Standing) (m : Walk) {t : List ℕ} {w : Walked} → ◌≡◌ {A = List ℕ × Walked} (t, w) (end_where standing m)
    → ◌≡◌ {A = Walk} (t, counts_of w) m
end_counts standing m e = ap (λ (x : List ℕ × Walked). (x.0, counts_of x.1)) e
