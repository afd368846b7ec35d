-- The rows of a table as the code meets them: from a place on, a whole row and the rows after it, or none; and cut into arrays of three numbers.
-- By taking the first numbers off the list. Assumes nothing.
use mathlib.Core.Path.{◌≡◌, refl, ap, sym}
use mathlib.Core.List.{List, [], ◌∷◌, map}
use Prim.Native.Nat.{ℕ, zero, suc, ◌+◌, ◌/◌, ◌≤◌, ◌<◌}
use native.Mathlib.Omega.{arith}
use lib.ListN.{length, get_or, drop, length-drop}
use Rattle.std.specs.Simd.{first_chunks}
use lib.Seq.{drop-cons}
use Rattle.rules.specs.Rules.{rule, row, rules_of}

pub rows_none : (t : List ℕ) → length t ≤ 2 → rules_of t ≡ []
unfolding rules_of
rows_none [] h = refl
rows_none (_ ∷ []) h = refl
rows_none (_ ∷ _ ∷ []) h = refl
rows_none (_ ∷ _ ∷ _ ∷ rest) h = absurd (omega arith)

-- no whole row is left
pub rows_end : (t : List ℕ) (at : ℕ) → length t ≤ at + 2 → rules_of (drop at t) ≡ []
rows_end t at h = rows_none (drop at t) (simp length-drop (omega arith))

-- three numbers, and those after them
pub drop_three : (t : List ℕ) (at : ℕ) → at + 2 < length t
    → drop at t ≡ get_or t at 0 ∷ get_or t (at + 1) 0 ∷ get_or t (at + 2) 0 ∷ drop (at + 3) t
drop_three t at h =
    let second : suc at ≡ at + 1 = omega arith in
    let third : suc (at + 1) ≡ at + 2 = omega arith in
    let next : suc (at + 2) ≡ at + 3 = omega arith in
    rw (drop-cons t at 0 (omega arith), second, drop-cons t (at + 1) 0 (omega arith), third, drop-cons t (at + 2) 0 (omega arith), next)

-- a whole row, and those after it
pub rows_step : (t : List ℕ) (at : ℕ) → at + 2 < length t
    → rules_of (drop at t) ≡ rule (get_or t at 0) (get_or t (at + 1) 0) (get_or t (at + 2) 0) ∷ rules_of (drop (at + 3) t)
unfolding rules_of
rows_step t at h = ap rules_of (drop_three t at h)

-- the whole rows, three numbers each
pub chunks_rows : (many : ℕ) (t : List ℕ) → length t / 3 ≡ many → map row (first_chunks 3 many t) ≡ rules_of t
unfolding rules_of
chunks_rows zero t h = sym (rows_none t (omega arith))
chunks_rows (suc many) [] h = absurd (omega arith)
chunks_rows (suc many) (_ ∷ []) h = absurd (omega arith)
chunks_rows (suc many) (_ ∷ _ ∷ []) h = absurd (omega arith)
chunks_rows (suc many) (mask ∷ wanted ∷ flags ∷ rest) h = ap (λ rs. rule mask wanted flags ∷ rs) (chunks_rows many rest (omega arith))
