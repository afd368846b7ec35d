-- What is shown under a limit and a room: the rows of the first tries, so many as there is room for; and when nothing is cut off.
-- By induction over the tries. Assumes nothing.
use mathlib.Core.Path.{◌≡◌, refl, ap}
use mathlib.Core.List.{List, [], ◌∷◌, ◌++◌}
use Prim.Native.Nat.{ℕ, zero, suc, ◌≤◌, ◌<◌}
use native.Mathlib.Omega.{arith}
use lib.ListN.{length, take, drop}
use Rattle.region_rows.specs.declared.Span.{Span}
use Rattle.region_try.specs.Tries.{Try, none, hit, rows_found}
use Rattle.region.specs.Listing.{Shown, tried, tried_row, shown}
use Rattle.region_try.specs.declared.Cut.TheVariants.{Going}
use Rattle.region_try.proofs.Runs.{spent_going, full_going}
use Rattle.region_laws.specs.Whole.{rows_first, all_shown, first_shown}

pub tries_le : (limit room : ℕ) (vs : List Try) → (shown limit room vs).tries ≤ length vs
unfolding shown
tries_le limit room [] = omega arith
tries_le zero room (v ∷ vs) = omega arith
tries_le (suc limit) room (none l o head ∷ vs) = let h : (shown limit room vs).tries ≤ length vs = tries_le limit room vs in omega arith
tries_le (suc limit) zero (hit r ∷ vs) = omega arith
tries_le (suc limit) (suc room) (hit r ∷ vs) = let h : (shown limit room vs).tries ≤ length vs = tries_le limit room vs in omega arith

pub tries_le_limit : (limit room : ℕ) (vs : List Try) → (shown limit room vs).tries ≤ limit
unfolding shown
tries_le_limit limit room [] = omega arith
tries_le_limit zero room (v ∷ vs) = omega arith
tries_le_limit (suc limit) room (none l o head ∷ vs) = let h : (shown limit room vs).tries ≤ limit = tries_le_limit limit room vs in omega arith
tries_le_limit (suc limit) zero (hit r ∷ vs) = omega arith
tries_le_limit (suc limit) (suc room) (hit r ∷ vs) = let h : (shown limit room vs).tries ≤ limit = tries_le_limit limit room vs in omega arith

-- the rows shown, for any room
pub rows_shown : (limit room : ℕ) (vs : List Try) → (shown limit room vs).rows ≡ take room (rows_first limit vs)
unfolding shown rows_found
rows_shown zero zero [] = refl
rows_shown zero (suc room) [] = refl
rows_shown (suc limit) zero [] = refl
rows_shown (suc limit) (suc room) [] = refl
rows_shown zero zero (v ∷ vs) = refl
rows_shown zero (suc room) (v ∷ vs) = refl
rows_shown (suc limit) room (none l o head ∷ vs) = rows_shown limit room vs
rows_shown (suc limit) zero (hit r ∷ vs) = refl
rows_shown (suc limit) (suc room) (hit r ∷ vs) = ap (λ (rs : List Span). r ∷ rs) (rows_shown limit room vs)

-- the rows shown are the first that the tries find
pub shown_first : (limit room : ℕ) (vs : List Try) → (shown limit room vs).rows ≡ take (length (shown limit room vs).rows) (rows_found vs)
unfolding shown rows_found
shown_first limit room [] = refl
shown_first zero room (v ∷ vs) = refl
shown_first (suc limit) room (none l o head ∷ vs) = shown_first limit room vs
shown_first (suc limit) zero (hit r ∷ vs) = refl
shown_first (suc limit) (suc room) (hit r ∷ vs) = ap (λ (rs : List Span). r ∷ rs) (shown_first limit room vs)

-- nothing is cut off
pub all_shown_lem : (limit room : ℕ) (vs : List Try) → length vs ≤ limit → length (rows_found vs) ≤ room
    → shown limit room vs ≡ all_shown (length vs) vs
unfolding shown rows_found
all_shown_lem limit room [] h g = refl
all_shown_lem zero room (v ∷ vs) h g = absurd (omega arith)
all_shown_lem (suc limit) room (none l o head ∷ vs) h g = ap (λ (s : Shown). tried s) (all_shown_lem limit room vs (omega arith) g)
all_shown_lem (suc limit) zero (hit r ∷ vs) h g = absurd (omega arith)
all_shown_lem (suc limit) (suc room) (hit r ∷ vs) h g = ap (λ (s : Shown). tried_row r s) (all_shown_lem limit room vs (omega arith) (omega arith))

-- what is not cut off is shown in whole
pub going_shown : (limit room : ℕ) (vs : List Try) → (shown limit room vs).cut ≡ Going → shown limit room vs ≡ all_shown (length vs) vs
unfolding shown rows_found
going_shown limit room [] e = refl
going_shown zero room (v ∷ vs) e = absurd (spent_going e)
going_shown (suc limit) room (none l o head ∷ vs) e = ap (λ (s : Shown). tried s) (going_shown limit room vs e)
going_shown (suc limit) zero (hit r ∷ vs) e = absurd (full_going e)
going_shown (suc limit) (suc room) (hit r ∷ vs) e = ap (λ (s : Shown). tried_row r s) (going_shown limit room vs e)

pub going_rows : (limit room : ℕ) (vs : List Try) → (shown limit room vs).cut ≡ Going → (shown limit room vs).rows ≡ rows_found vs
going_rows limit room vs e = ap (λ (s : Shown). s.rows) (going_shown limit room vs e)

-- the limit cuts off
pub cut_shown : (limit room : ℕ) (vs : List Try) → limit < length vs → length (rows_found vs) ≤ room
    → shown limit room vs ≡ first_shown limit vs
unfolding shown rows_found
cut_shown limit room [] h g = absurd (omega arith)
cut_shown zero room (v ∷ vs) h g = refl
cut_shown (suc limit) room (none l o head ∷ vs) h g = ap (λ (s : Shown). tried s) (cut_shown limit room vs (omega arith) g)
cut_shown (suc limit) zero (hit r ∷ vs) h g = absurd (omega arith)
cut_shown (suc limit) (suc room) (hit r ∷ vs) h g = ap (λ (s : Shown). tried_row r s) (cut_shown limit room vs (omega arith) (omega arith))

-- a try finds one row at most
pub rows_le : (vs : List Try) → length (rows_found vs) ≤ length vs
unfolding rows_found
rows_le [] = omega arith
rows_le (none l o head ∷ vs) = let h : length (rows_found vs) ≤ length vs = rows_le vs in omega arith
rows_le (hit r ∷ vs) = let h : length (rows_found vs) ≤ length vs = rows_le vs in omega arith

-- the rows of the first tries begin those of all
pub rows_split : (limit : ℕ) (vs : List Try) → rows_found vs ≡ rows_first limit vs ++ rows_found (drop limit vs)
unfolding rows_found
rows_split zero vs = refl
rows_split (suc limit) [] = refl
rows_split (suc limit) (none l o head ∷ vs) = rows_split limit vs
rows_split (suc limit) (hit r ∷ vs) = ap (λ (rs : List Span). r ∷ rs) (rows_split limit vs)
