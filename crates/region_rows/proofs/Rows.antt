-- Rows stored one after the other are the rows laid at once, and rows read from a table that has them at its start are those rows.
-- By induction over the rows. Assumes nothing.
use mathlib.Core.Path.{◌≡◌, refl, ap, sym, ◌∙◌}
use mathlib.Core.List.{List, [], ◌∷◌, ◌++◌, append_assoc}
use Prim.Native.Nat.{ℕ, zero, suc, ◌+◌, ◌*◌, ◌≤◌}
use native.Mathlib.Omega.{arith}
use native.Mathlib.Nat.{add-zero, zero-add}
use lib.ListN.{length, take, drop, get_or, length-append, take-append-drop}
use lib.Seq.{sets, sets-eq, length-sets, take_at, drop_at, drop-drop, length-take-le, get_or-append-add}
use Rattle.region_rows.specs.declared.Span.{Span}
use Rattle.region_rows.specs.Rows.{numbers, width, from, span_at, with_span, stored, spans_in, flat, laid}

-- ---- rows that are stored

pub stored_none : (t : List ℕ) (q : ℕ) → stored t q [] ≡ t
unfolding stored
stored_none t q = refl

pub stored_more : (t : List ℕ) (q : ℕ) (r : Span) (rs : List Span) → stored t q (r ∷ rs) ≡ stored (with_span t q r) (q + 1) rs
unfolding stored
stored_more t q r rs = refl

module _ (t : List ℕ) (i : ℕ) (r : Span) (h : i + width ≤ length t) where
  row_split : sets t i (numbers r) ≡ (take i t ++ numbers r) ++ drop (i + width) t
  row_split = sets-eq (numbers r) t i h

  row_length : length (take i t ++ numbers r) ≡ i + width
  row_length = length-append (take i t) (numbers r) ∙ ap (λ (k : ℕ). k + width) (length-take-le i t (let g : i ≤ length t = omega arith in g))

  take_row : take (i + width) (sets t i (numbers r)) ≡ take i t ++ numbers r
  take_row = rw row_split (take_at (take i t ++ numbers r) (drop (i + width) t) (i + width) row_length)

  drop-row : (k : ℕ) → drop (i + width + k) (sets t i (numbers r)) ≡ drop (i + width + k) t
  drop-row k =
      sym (drop-drop k (i + width) (sets t i (numbers r)))
      ∙ ap (λ (x : List ℕ). drop k x) (rw row_split (drop_at (take i t ++ numbers r) (drop (i + width) t) (i + width) row_length))
      ∙ drop-drop k (i + width) t

stored_eq : (rs : List Span) (t : List ℕ) (q : ℕ) → (q + length rs) * width ≤ length t → stored t q rs ≡ take (q * width) t ++ (flat rs ++ from t (q + length rs))
unfolding stored flat
stored_eq [] t q h = rw add-zero (sym (take-append-drop (q * width) t))
stored_eq (r ∷ rs) t q h =
    let l : length (with_span t q r) ≡ length t = length-sets t (q * width) (numbers r) in
    let f : q * width + width ≤ length t = omega arith in
    let a : (q + 1) * width ≡ q * width + width = omega arith in
    let b : (q + 1 + length rs) * width ≡ q * width + width + length rs * width = omega arith in
    let d : (q + suc (length rs)) * width ≡ q * width + width + length rs * width = omega arith in
    stored_eq rs (with_span t q r) (q + 1) (let g : (q + 1 + length rs) * width ≤ length (with_span t q r) = omega arith in g)
    ∙ rw (a, b, d, take_row t (q * width) r f, drop-row t (q * width) r f (length rs * width)) (append_assoc (take (q * width) t) (numbers r) (flat rs ++ drop (q * width + width + length rs * width) t))

-- from the first row on
pub stored_laid : (rs : List Span) (t : List ℕ) → length rs * width ≤ length t → stored t 0 rs ≡ laid rs t
unfolding laid
stored_laid rs t h = stored_eq rs t 0 (rw (zero-add (length rs)) h) ∙ rw (zero-add (length rs))

-- no rows
pub laid_none : (rs : List Span) (t : List ℕ) → length rs ≡ 0 → laid rs t ≡ t
unfolding laid flat
laid_none [] t e = refl
laid_none (r ∷ rs) t e = absurd (omega arith)

-- ---- rows that are read

-- past a row's numbers stands what follows it
past : (r : Span) (t : List ℕ) (row k : ℕ) → get_or (numbers r ++ t) (suc row * width + k) 0 ≡ get_or t (row * width + k) 0
past r t row k =
    let e : suc row * width + k ≡ width + (row * width + k) = omega arith in
    ap (λ (i : ℕ). get_or (numbers r ++ t) i 0) e ∙ get_or-append-add (numbers r) t (row * width + k) 0

next_span : (r : Span) (t : List ℕ) (row : ℕ) → span_at (numbers r ++ t) (suc row) ≡ span_at t row
next_span r t row = let level = rw (add-zero (suc row * width), add-zero (row * width)) at (past r t row 0) in simp (level, past r t row)

first_span : (r : Span) (t : List ℕ) (n : ℕ) → spans_in (numbers r ++ t) (suc n) ≡ r ∷ spans_in t n
unfolding spans_in
first_span r t zero = refl
first_span r t (suc n) = rw (first_span r t n, next_span r t n)

spans_flat : (rs : List Span) (rest : List ℕ) → spans_in (flat rs ++ rest) (length rs) ≡ rs
unfolding flat spans_in
spans_flat [] rest = refl
spans_flat (r ∷ rs) rest = first_span r (flat rs ++ rest) (length rs) ∙ ap (λ (xs : List Span). r ∷ xs) (spans_flat rs rest)

-- the rows that stand at a table's start
pub spans_laid : (rs : List Span) (t : List ℕ) → spans_in (laid rs t) (length rs) ≡ rs
unfolding laid
spans_laid rs t = spans_flat rs (from t (length rs))
