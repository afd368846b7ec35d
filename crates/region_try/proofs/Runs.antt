-- A run by its tries: one after the other, each made, or refused by the limit, or left out once the walk is cut off.
-- By induction over the tries. Assumes nothing.
use mathlib.Core.Path.{◌≡◌, refl, sym, ◌∙◌}
use mathlib.Core.List.{List, [], ◌∷◌, ◌++◌}
use mathlib.Core.Bool.{Bool, true, false, cond, ◌&&◌}
use mathlib.Core.Logic.{◌⊎◌, inl, inr, ⊎_elim}
use Prim.Native.Nat.{ℕ, ◌+◌, ◌≤◌, ◌<◌}
use native.Mathlib.Omega.{arith}
use lib.Dec.{leb}
use lib.ListN.{length}
use borrow.Author.Tests.{le-leb, lt-leb}
use Rattle.header_judge.specs.Head.{is_box}
use Rattle.region_rows.specs.declared.Span.{Span}
use Rattle.region_rows.specs.Rows.{with_span}
use Rattle.region_try.specs.Tries.{Try, none, hit, rows_found}
use Rattle.region_try.specs.Whole.{keeps_whole}
use Rattle.region_try.specs.Steps.{Walk, state, found, counted, due, if_going, step, run}
use Rattle.region_try.specs.declared.Cut.{Cut}
use Rattle.region_try.specs.declared.Cut.TheVariants.{Going, Full, Spent}
use Rattle.region_try.specs.declared.State.{State}
use Rattle.region_try.specs.declared.Found.{Found}
use Rattle.region_try.specs.declared.Found.TheVariants.{NoRoom, Row}

pub spent_going : Spent ≡ Going → ⊥
spent_going e = let z : ◌≡◌ {A = ℕ} 0 1 = cc in omega arith

pub full_going : Full ≡ Going → ⊥
full_going e = let z : ◌≡◌ {A = ℕ} 0 1 = cc in omega arith

pub going_or_not : (cut : Cut) → (cut ≡ Going) ⊎ (cut ≡ Going → ⊥)
going_or_not Going = inl refl
going_or_not Full = inr full_going
going_or_not Spent = inr spent_going

module _ (limit room : ℕ) where
  -- ---- one try

  pub step_spent : (v : Try) (t : List ℕ) (rows tries : ℕ) (whole : Bool) → limit ≤ tries
      → step limit room v (t, state rows tries whole Going) ≡ (t, state rows tries false Spent)
  unfolding step
  step_spent v t rows tries whole h = rw (le-leb _ _ h)

  pub step_made : (v : Try) (t t₁ : List ℕ) (f : Found) (rows tries : ℕ) (whole : Bool) → tries < limit → ◌≡◌ {A = List ℕ × Found} (t₁, f) (found room rows v t)
      → step limit room v (t, state rows tries whole Going) ≡ (t₁, counted rows (tries + 1) (whole && keeps_whole v) f)
  unfolding step
  step_made v t t₁ f rows tries whole h e = rw (lt-leb _ _ h, ← e)

  step_cut : (v : Try) (m : Walk) → (m.1.cut ≡ Going → ⊥) → step limit room v m ≡ m
  unfolding step
  step_cut v m f = by m.1.cut f
    where
      by : (cut : Cut) → (cut ≡ Going → ⊥) → if_going cut (due limit room v m.0 m.1.rows m.1.tries m.1.whole) m ≡ m
      by Going f = absurd (f refl)
      by Full f = refl
      by Spent f = refl

  -- ---- several

  pub run_none : (m : Walk) → run limit room [] m ≡ m
  unfolding run
  run_none m = refl

  pub run_empty : (vs : List Try) (m : Walk) → vs ≡ [] → m ≡ run limit room vs m
  unfolding run
  run_empty vs m e = rw e

  pub run_cons : (v : Try) (vs : List Try) (m : Walk) → run limit room (v ∷ vs) m ≡ run limit room vs (step limit room v m)
  unfolding run
  run_cons v vs m = refl

  pub run_append : (us vs : List Try) (m : Walk) → run limit room (us ++ vs) m ≡ run limit room vs (run limit room us m)
  unfolding run
  run_append [] vs m = refl
  run_append (u ∷ us) vs m = run_append us vs (step limit room u m)

  pub run_cut : (vs : List Try) (m : Walk) → (m.1.cut ≡ Going → ⊥) → run limit room vs m ≡ m
  unfolding run
  run_cut [] m f = refl
  run_cut (v ∷ vs) m f = rw (step_cut v m f) (run_cut vs m f)

  -- ---- the rows of a run that goes on

  was_going : (vs : List Try) (m : Walk) → (run limit room vs m).1.cut ≡ Going → m.1.cut ≡ Going
  was_going vs m e = ⊎_elim (λ g. g) (λ f. absurd (f (rw (run_cut vs m f) at e))) (going_or_not m.1.cut)

  -- the rows of a state that goes on are those before and the one that a try finds
  abbrev Adds : Try → State → State → Type 0
  Adds v s₀ s = s.cut ≡ Going → s.rows ≡ s₀.rows + length (rows_found (v ∷ []))

  step_rows : (v : Try) (m : Walk) → Adds v m.1 (step limit room v m).1
  unfolding step found rows_found
  step_rows v m e = by m.1.cut refl v e
    where
      room_left : (r : Span) (b : Bool)
          → Adds (hit r) m.1 (counted m.1.rows (m.1.tries + 1) (m.1.whole && keeps_whole (hit r)) (cond {A = List ℕ × Found} b (m.0, NoRoom)
          (with_span m.0 m.1.rows r, Row r.held r.declared r.size (is_box r.word r.flags))).1)
      room_left r true e = absurd (full_going e)
      room_left r false e = refl

      made : (b : Bool) (v : Try)
          → Adds v m.1 (cond {A = Walk} b (m.0, state m.1.rows m.1.tries false Spent)
          ((found room m.1.rows v m.0).0, counted m.1.rows (m.1.tries + 1) (m.1.whole && keeps_whole v) (found room m.1.rows v m.0).1)).1
      made true v e = absurd (spent_going e)
      made false (none l o head) e = omega arith
      made false (hit r) e = room_left r (leb room m.1.rows) e

      by : (cut : Cut) → m.1.cut ≡ cut → (v : Try)
          → Adds v m.1 (if_going cut (due limit room v m.0 m.1.rows m.1.tries m.1.whole) m).1
      by Going k v e = made (leb limit m.1.tries) v e
      by Full k v e = absurd (full_going (sym k ∙ e))
      by Spent k v e = absurd (spent_going (sym k ∙ e))

  rows_cons : (v : Try) (vs : List Try) → length (rows_found (v ∷ vs)) ≡ length (rows_found (v ∷ [])) + length (rows_found vs)
  unfolding rows_found
  rows_cons (none l o head) vs = omega arith
  rows_cons (hit r) vs = omega arith

  pub run_rows : (vs : List Try) (m : Walk) → (run limit room vs m).1.cut ≡ Going → (run limit room vs m).1.rows ≡ m.1.rows + length (rows_found vs)
  unfolding run rows_found
  run_rows [] m e = omega arith
  run_rows (v ∷ vs) m e =
      let a : (run limit room vs (step limit room v m)).1.rows ≡ (step limit room v m).1.rows + length (rows_found vs) = run_rows vs (step limit room v m) e in
      let g : (step limit room v m).1.rows ≡ m.1.rows + length (rows_found (v ∷ [])) = step_rows v m (was_going vs (step limit room v m) e) in
      let k : length (rows_found (v ∷ vs)) ≡ length (rows_found (v ∷ [])) + length (rows_found vs) = rows_cons v vs in
      omega arith
