-- Rows by their numbers: where the rows of a part stand in the whole.
-- By induction over the rows before the part. Assumes nothing.
use mathlib.Core.Path.{◌≡◌, refl}
use mathlib.Core.List.{List, [], ◌∷◌, ◌++◌}
use mathlib.Core.Option.{some}
use Prim.Native.Nat.{ℕ, zero, suc, ◌+◌, ◌≤◌, ◌<◌}
use native.Mathlib.Omega.{arith}
use native.Mathlib.Nat.{zero-add}
use lib.ListN.{length, take, drop, get_elem?, take-append-drop}
use Rattle.region_rows.specs.declared.Span.{Span}
use Rattle.nesting_laws.specs.Nesting.{At, Parent, Ancestor, direct, further}

-- ---- by place

none_at : {C : Type 0} (i : ℕ) {s : Span} → get_elem? [] i ≡ some s → C
none_at i h = absurd (let z : ◌≡◌ {A = ℕ} 0 1 = cc in omega arith)

place_lt : (rows : List Span) (i : ℕ) {s : Span} → get_elem? rows i ≡ some s → i < length rows
place_lt [] i h = none_at i h
place_lt (r ∷ rows) zero h = omega arith
place_lt (r ∷ rows) (suc i) h = let k : i < length rows = place_lt rows i h in omega arith

place_left : (xs ys : List Span) (i : ℕ) {s : Span} → get_elem? xs i ≡ some s → get_elem? (xs ++ ys) i ≡ some s
place_left [] ys i h = none_at i h
place_left (x ∷ xs) ys zero h = h
place_left (x ∷ xs) ys (suc i) h = place_left xs ys i h

place_right : (xs ys : List Span) (k : ℕ) {s : Span} → get_elem? ys k ≡ some s → get_elem? (xs ++ ys) (length xs + k) ≡ some s
place_right [] ys k h = rw (zero-add k) h
place_right (x ∷ xs) ys k h = let e : suc (length xs) + k ≡ suc (length xs + k) = omega arith in rw e (place_right xs ys k h)

place_cases : {C : Type 0} (xs ys : List Span) (i : ℕ) {s : Span} → get_elem? (xs ++ ys) i ≡ some s
    → (get_elem? xs i ≡ some s → C) → ((k : ℕ) → i ≡ length xs + k → get_elem? ys k ≡ some s → C) → C
place_cases [] ys i h left right = right i (omega arith) h
place_cases (x ∷ xs) ys zero h left right = left h
place_cases (x ∷ xs) ys (suc i) h left right = place_cases xs ys i h left (λ k e q. right k (omega arith) q)

-- ---- by number

pub at_none : {C : Type 0} {n x : ℕ} {s : Span} → At n [] x s → C
at_none h = none_at h.place h.is

pub at_bounds : {n x : ℕ} {rows : List Span} {s : Span} → At n rows x s → (n ≤ x) × (x < n + length rows)
at_bounds {rows} h = let k : h.place < length rows = place_lt rows h.place h.is in let e = h.number in (omega arith, omega arith)

pub at_once : {n x : ℕ} {rows : List Span} {a b : Span} → At n rows x a → At n rows x b → a ≡ b
at_once {rows} h g =
    let e : h.place ≡ g.place = let i = h.number in let j = g.number in omega arith in
    let p : get_elem? rows g.place ≡ some _ = rw e at h.is in
    let q : get_elem? rows g.place ≡ some _ = g.is in
    cc

-- the rows of a record, those inside it and those after it
module _ {n : ℕ} (r : Span) (inner later : List Span) where
  pub at_head : At n (r ∷ (inner ++ later)) n r
  at_head = record { place = 0; number = omega arith; is = refl }

  pub at_inner : {x : ℕ} {s : Span} → At (n + 1) inner x s → At n (r ∷ (inner ++ later)) x s
  at_inner h = let e = h.number in record { place = suc h.place; number = omega arith; is = place_left inner later h.place h.is }

  pub at_later : {x : ℕ} {s : Span} → At (n + 1 + length inner) later x s → At n (r ∷ (inner ++ later)) x s
  at_later h = let e = h.number in record { place = suc (length inner + h.place); number = omega arith; is = place_right inner later h.place h.is }

  pub at_cases : {C : Type 0} {x : ℕ} {s : Span} → At n (r ∷ (inner ++ later)) x s
      → (x ≡ n → r ≡ s → C) → (At (n + 1) inner x s → C) → (At (n + 1 + length inner) later x s → C) → C
  at_cases {C} {x} {s} h head inside after = by h.place h.number h.is
    where
      by : (i : ℕ) → x ≡ n + i → get_elem? (r ∷ (inner ++ later)) i ≡ some s → C
      by zero e q = head (omega arith) cc
      by (suc i) e q =
          place_cases inner later i q
          (λ k. inside (record { place = i; number = omega arith; is = k }))
          (λ k d w. after (record { place = k; number = omega arith; is = w }))

-- ---- the first rows, and the others

place_taken : (c : ℕ) (rows : List Span) (i : ℕ) {s : Span} → get_elem? (take c rows) i ≡ some s → get_elem? rows i ≡ some s
place_taken c rows i h = rw (take-append-drop c rows) at (place_left (take c rows) (drop c rows) i h)

place_dropped : (c : ℕ) (rows : List Span) (k : ℕ) {s : Span} → get_elem? (drop c rows) k ≡ some s → get_elem? rows (c + k) ≡ some s
place_dropped zero rows k h = rw (zero-add k) h
place_dropped (suc c) [] k h = none_at k h
place_dropped (suc c) (r ∷ rows) k h = let e : suc c + k ≡ suc (c + k) = omega arith in rw e (place_dropped c rows k h)

place_parted : {C : Type 0} (c : ℕ) (rows : List Span) (i : ℕ) {s : Span} → get_elem? rows i ≡ some s
    → (get_elem? (take c rows) i ≡ some s → C) → ((k : ℕ) → i ≡ c + k → get_elem? (drop c rows) k ≡ some s → C) → C
place_parted zero rows i h left right = right i (omega arith) h
place_parted (suc c) [] i h left right = none_at i h
place_parted (suc c) (r ∷ rows) zero h left right = left h
place_parted (suc c) (r ∷ rows) (suc i) h left right = place_parted c rows i h left (λ k e q. right k (omega arith) q)

module _ {n : ℕ} (c : ℕ) (rows : List Span) where
  pub at_taken : {x : ℕ} {s : Span} → At n (take c rows) x s → At n rows x s
  at_taken h = record { place = h.place; number = h.number; is = place_taken c rows h.place h.is }

  pub at_dropped : {x : ℕ} {s : Span} → At (n + c) (drop c rows) x s → At n rows x s
  at_dropped h = let e = h.number in record { place = c + h.place; number = omega arith; is = place_dropped c rows h.place h.is }

  pub at_parted : {C : Type 0} {x : ℕ} {s : Span} → At n rows x s → (At n (take c rows) x s → C) → (At (n + c) (drop c rows) x s → C) → C
  at_parted h left right =
      place_parted c rows h.place h.is
      (λ q. left (record { place = h.place; number = h.number; is = q }))
      (λ k e q. let d = h.number in right (record { place = k; number = omega arith; is = q }))

-- ---- ancestors

-- every row of a part is one of the whole
abbrev pub Part : ℕ → List Span → ℕ → List Span → Type 0
Part m part n rows = (x : ℕ) (s : Span) → At m part x s → At n rows x s

pub ancestor_joined : {n p q : ℕ} {rows : List Span} {i : ℕ} → Ancestor n rows p q → Ancestor n rows q i → Ancestor n rows p i
ancestor_joined a (direct d) = further a d
ancestor_joined a (further b d) = further (ancestor_joined a b) d

module _ {m n : ℕ} {part rows : List Span} (of : Part m part n rows) where
  parent_of_part : {p i : ℕ} → Parent m part p i → Parent n rows p i
  parent_of_part {i} h = record { row = h.row; at = of i h.row h.at; number = h.number; named = h.named }

  pub ancestor_of_part : {p i : ℕ} → Ancestor m part p i → Ancestor n rows p i
  ancestor_of_part (direct d) = direct (parent_of_part d)
  ancestor_of_part (further a d) = further (ancestor_of_part a) (parent_of_part d)
