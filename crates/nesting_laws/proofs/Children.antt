-- What a nest says of the children of one row: the first starts where the row's header ends, each other where the one before it ends.
-- By induction over the nest: the rows inside a record have parents among it and themselves, those after it have none there. Assumes nothing.
use mathlib.Core.Path.{◌≡◌}
use mathlib.Core.List.{List, ◌∷◌, ◌++◌}
use mathlib.Core.Logic.{◌⊎◌, inl, inr, ⊎_elim}
use Prim.Native.Nat.{ℕ, ◌+◌, ◌≤◌, ◌<◌}
use native.Mathlib.Omega.{arith}
use lib.ListN.{length, length-append}
use Rattle.region_rows.specs.declared.Span.{Span}
use Rattle.nesting_laws.specs.Nesting.{header_end, end, At, NoneBetween}
use Rattle.nesting_laws.proofs.Numbers.{Part, at_none, at_bounds, at_head, at_inner, at_later, at_cases}
use Rattle.nesting_laws.proofs.Nest.{Nest, bare, boxed}
use Rattle.nesting_laws.proofs.Stands.{Below, hung}

-- ---- the numbers of parents

-- a number is none of those from n to m
abbrev Outside : ℕ → ℕ → ℕ → Type 0
Outside n m p = n ≤ p → p < m → ⊥

-- the parent of a row inside record n
inner_parent : {level low high n x : ℕ} {rows : List Span} {s : Span} → Nest level n low high (n + 1) rows → At (n + 1) rows x s
    → (n ≤ s.parent) × (s.parent < n + 1 + length rows)
inner_parent {level} {n} {x} {rows} {s} nest at =
    ⊎_elim
    (λ (w : (s.level ≡ level) × (s.parent ≡ n)). let e = w.1 in (omega arith, omega arith))
    (λ (w : Below (n + 1) rows x s). let b : (n + 1 ≤ s.parent) × (s.parent < n + 1 + length rows) = at_bounds w.at in (omega arith, omega arith))
    (hung nest at)

-- that of a row after it
later_parent : {level parent low high m x : ℕ} {rows : List Span} {s : Span} (n : ℕ) → Outside n m parent → Nest level parent low high m rows → At m rows x s
    → Outside n m s.parent
later_parent {level} {parent} {m} {x} {rows} {s} n outside nest at g h =
    ⊎_elim
    (λ (w : (s.level ≡ level) × (s.parent ≡ parent)). let e = w.1 in outside (omega arith) (omega arith))
    (λ (w : Below m rows x s). absurd (let b : (m ≤ s.parent) × (s.parent < m + length rows) = at_bounds w.at in omega arith))
    (hung nest at)

-- ---- where children start

-- the first row of a region with its parent starts where the region does
pub first_starts : {level parent low high n y : ℕ} {rows : List Span} {b : Span} → Nest level parent low high n rows → At n rows y b
    → ((k : ℕ) (c : Span) → At n rows k c → k < y → c.parent ≡ parent → ⊥) → b.offset ≡ low
first_starts bare j none = at_none j
first_starts {n} {y} (boxed {inner} {later} r fits opens deep more) j none =
    let head : n < y → ⊥ = λ h. none n r (at_head r inner later) h fits.parent_is in
    at_cases r inner later j
    (λ e q. rw (← q) fits.starts)
    (λ j₁. absurd (head (let m : (n + 1 ≤ y) × (y < n + 1 + length inner) = at_bounds j₁ in omega arith)))
    (λ j₁. absurd (head (let m : (n + 1 + length inner ≤ y) × (y < n + 1 + length inner + length later) = at_bounds j₁ in omega arith)))

-- none in the whole is none in a part
none_in_part : {m n i j p : ℕ} {part rows : List Span} → Part m part n rows → NoneBetween n rows i j p → NoneBetween m part i j p
none_in_part of none k c at g h e = none k c (of k c at) g h e

-- where the first row after row x that has the parent p is due: a child of row x where its header ends, of its parent where it ends
abbrev pub Due : ℕ → Span → ℕ → ℕ → Type 0
Due x a p due = ((p ≡ x) × (due ≡ header_end a)) ⊎ ((p ≡ a.parent) × (due ≡ end a))

-- that parent is among the numbers that the row and its own parent are among
due_among : {n m x p due : ℕ} (a : Span) → Due x a p due → (n ≤ x) × (x < m) → (n ≤ a.parent) × (a.parent < m) → (n ≤ p) × (p < m)
due_among a (inl w) u v = let e = w.0 in (omega arith, omega arith)
due_among a (inr w) u v = let e = w.0 in (omega arith, omega arith)

-- and there it starts
pub next_child : {level parent low high n x y due : ℕ} {rows : List Span} {a b : Span} → Outside n (n + length rows) parent → Nest level parent low high n rows
    → At n rows x a → At n rows y b → x < y → Due x a b.parent due → NoneBetween n rows x y b.parent → b.offset ≡ due
next_child outside bare i j h so none = at_none i
next_child {parent} {n} {x} {y} {due} {a} {b} outside (boxed {inner} {later} r fits opens deep more) i j h so none =
    let inside : Part (n + 1) inner n (r ∷ (inner ++ later)) = λ z u g. at_inner r inner later g in
    let beyond : Part (n + 1 + length inner) later n (r ∷ (inner ++ later)) = λ z u g. at_later r inner later g in
    let aside : Outside n (n + 1 + length inner) parent = λ k l. outside k (omega (arith, length-append inner later)) in
    at_cases r inner later i
    (λ d q.
    let own : a.parent ≡ parent = rw (← q) fits.parent_is in
    at_cases r inner later j
    (λ f w. absurd (omega arith))
    (λ g.
    ⊎_elim
    (λ (w : (b.parent ≡ x) × (due ≡ header_end a)).
    let e = w.0 in
    rw (w.1, ← q)
    (first_starts deep g (λ k c at l t. none k c (inside k c at) (let m : (n + 1 ≤ k) × (k < n + 1 + length inner) = at_bounds at in omega arith) l (omega arith))))
    (λ (w : (b.parent ≡ a.parent) × (due ≡ end a)).
    absurd (let e = w.0 in let m : (n ≤ b.parent) × (b.parent < n + 1 + length inner) = inner_parent deep g in aside (omega arith) (omega arith)))
    so)
    (λ g.
    ⊎_elim
    (λ (w : (b.parent ≡ x) × (due ≡ header_end a)). absurd (let e = w.0 in later_parent n aside more g (omega arith) (omega arith)))
    (λ (w : (b.parent ≡ a.parent) × (due ≡ end a)).
    let e = w.0 in
    rw (w.1, ← q)
    (first_starts more g
    (λ k c at l t. none k c (beyond k c at) (let m : (n + 1 + length inner ≤ k) × (k < n + 1 + length inner + length later) = at_bounds at in omega arith) l (omega arith))))
    so))
    (λ i₁.
    let m : (n + 1 ≤ x) × (x < n + 1 + length inner) = at_bounds i₁ in
    at_cases r inner later j
    (λ f w. absurd (omega arith))
    (λ g. next_child (λ k l. omega arith) deep i₁ g h so (none_in_part inside none))
    (λ g.
    let p : (n ≤ b.parent) × (b.parent < n + 1 + length inner) = due_among a so (omega arith, m.1) (inner_parent deep i₁) in
    absurd (later_parent n aside more g p.0 p.1)))
    (λ i₁.
    let m : (n + 1 + length inner ≤ x) × (x < n + 1 + length inner + length later) = at_bounds i₁ in
    at_cases r inner later j
    (λ f w. absurd (omega arith))
    (λ g. absurd (let z : (n + 1 ≤ y) × (y < n + 1 + length inner) = at_bounds g in omega arith))
    (λ g. next_child (λ k l. outside (omega arith) (omega (arith, length-append inner later))) more i₁ g h so (none_in_part beyond none)))
