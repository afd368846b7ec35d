-- What a nest says of its rows: of one, where it lies, its parent and its level; of two, that they are apart, or that the later lies inside the earlier, an ancestor.
-- By induction over the nest. Assumes nothing.
use mathlib.Core.Path.{◌≡◌, refl}
use mathlib.Core.List.{List, ◌∷◌, ◌++◌}
use mathlib.Core.Bool.{Bool, true, false}
use mathlib.Core.Logic.{◌⊎◌, inl, inr, ⊎_elim}
use Prim.Native.Nat.{ℕ, suc, ◌+◌, ◌-◌, ◌≤◌, ◌<◌}
use native.Mathlib.Omega.{arith}
use lib.ListN.{length, length-append}
use Rattle.header_judge.specs.Head.{is_box}
use Rattle.region_rows.specs.declared.Span.{Span}
use Rattle.region_rows.specs.Rows.{top}
use Rattle.nesting_laws.specs.Nesting.{header_end, end, Inside, At, Parent, Ancestor, direct}
use Rattle.nesting_laws.proofs.Numbers.{at_none, at_bounds, at_head, at_inner, at_later, at_cases, ancestor_joined, ancestor_of_part}
use Rattle.nesting_laws.proofs.Nest.{Opens, Nest, bare, boxed}

-- ---- one row

-- where a row lies
pub record Lies (level low high : ℕ) (s : Span) : Type 0 where
  pub deep : level ≤ s.level
  pub starts : low ≤ s.offset
  pub some_held : 0 < s.held
  pub ends : end s ≤ high

pub lies : {level parent low high n x : ℕ} {rows : List Span} {s : Span} → Nest level parent low high n rows → At n rows x s → Lies level low high s
lies bare at = at_none at
lies {level} {low} {high} {s} (boxed {inner} {later} r fits opens deep more) at =
    let l = fits.level_is in
    let b = fits.starts in
    let e = fits.ends in
    at_cases r inner later at
    (λ i q. rw (← q) (record { deep = omega arith; starts = omega arith; some_held = fits.some_held; ends = e }))
    (λ i.
    let h = lies deep i in
    let v : suc level ≤ s.level = h.deep in
    let u : header_end r ≤ s.offset = h.starts in
    let w : end s ≤ end r = h.ends in
    record { deep = omega arith; starts = omega arith; some_held = h.some_held; ends = omega arith })
    (λ i.
    let h = lies more i in
    let u : end r ≤ s.offset = h.starts in
    record { deep = h.deep; starts = omega arith; some_held = h.some_held; ends = h.ends })

-- a Box around a row that is one level below it
abbrev pub Encloses : Span → Span → Type 0
Encloses a b = (b.level ≡ suc a.level) × Inside b a × (is_box a.word a.flags ≡ true)

-- a row whose parent stands before it, and around it
pub record Below (n : ℕ) (rows : List Span) (x : ℕ) (s : Span) : Type 0 where
  pub above : Span
  pub at : At n rows s.parent above
  pub before : s.parent < x
  pub encloses : Encloses above s

-- a row with another inside it is a Box
holds_box : {n x : ℕ} {inner : List Span} {s : Span} (r : Span) → Opens r inner → At n inner x s → is_box r.word r.flags ≡ true
holds_box r opens at = by (is_box r.word r.flags) refl
  where
    by : (b : Bool) → is_box r.word r.flags ≡ b → is_box r.word r.flags ≡ true
    by true e = e
    by false e = at_none (rw (opens e) at at)

-- a row of a region's own, or one below another
abbrev pub Hung : ℕ → ℕ → ℕ → List Span → ℕ → Span → Type 0
Hung level parent n rows x s = ((s.level ≡ level) × (s.parent ≡ parent)) ⊎ Below n rows x s

pub hung : {level parent low high n x : ℕ} {rows : List Span} {s : Span} → Nest level parent low high n rows → At n rows x s → Hung level parent n rows x s
hung bare at = at_none at
hung {level} {n} {x} {s} (boxed {inner} {later} r fits opens deep more) at =
    at_cases r inner later at
    (λ i q. rw (← q) (inl (fits.level_is, fits.parent_is)))
    (λ i.
    let m : (n + 1 ≤ x) × (x < n + 1 + length inner) = at_bounds i in
    let l : r.level ≡ level = fits.level_is in
    ⊎_elim
    (λ (w : (s.level ≡ suc level) × (s.parent ≡ n)).
    let z = lies deep i in
    inr (record { above = r; at = rw w.1 (at_head r inner later); before = omega arith; encloses = (omega arith, (z.starts, z.ends), holds_box r opens i) }))
    (λ (w : Below (n + 1) inner x s). inr (record { above = w.above; at = at_inner r inner later w.at; before = w.before; encloses = w.encloses }))
    (hung deep i))
    (λ i.
    ⊎_elim
    (λ w. inl w)
    (λ (w : Below (n + 1 + length inner) later x s). inr (record { above = w.above; at = at_later r inner later w.at; before = w.before; encloses = w.encloses }))
    (hung more i))

-- ---- two rows

-- each row has a number below the one for none
abbrev pub Numbered : ℕ → List Span → Type 0
Numbered n rows = length rows ≤ top - n

-- the parent of a region is an ancestor of each of its rows
under : {level parent low high n x : ℕ} {rows : List Span} {s : Span} → (parent ≡ top → ⊥) → Numbered n rows → Nest level parent low high n rows
    → At n rows x s → Ancestor n rows parent x
under named few bare at = at_none at
under {parent} {n} named few (boxed {inner} {later} r fits opens deep more) at =
    let head : Parent n (r ∷ (inner ++ later)) parent n = record { row = r; at = at_head r inner later; number = fits.parent_is; named = named } in
    at_cases r inner later at
    (λ e q. rw e (direct head))
    (λ i.
    ancestor_joined (direct head)
    (ancestor_of_part (λ y u j. at_inner r inner later j) (under (λ e. omega arith) (omega (arith, length-append inner later)) deep i)))
    (λ i. ancestor_of_part (λ y u j. at_later r inner later j) (under named (omega (arith, length-append inner later)) more i))

-- a later row starts past an earlier one, or lies inside it, its ancestor and less deep
abbrev pub After : ℕ → List Span → ℕ → ℕ → Span → Span → Type 0
After n rows x y a b = (end a ≤ b.offset) ⊎ (Inside b a × Ancestor n rows x y × (a.level < b.level))

pub after : {level parent low high n x y : ℕ} {rows : List Span} {a b : Span} → Numbered n rows → Nest level parent low high n rows
    → At n rows x a → At n rows y b → x < y → After n rows x y a b
after few bare i j h = at_none i
after {level} {n} {x} {y} {a} {b} few (boxed {inner} {later} r fits opens deep more) i j h =
    at_cases r inner later i
    (λ e q.
    at_cases r inner later j
    (λ d w. absurd (omega arith))
    (λ j₁.
    let l = lies deep j₁ in
    let v : suc level ≤ b.level = l.deep in
    let k : r.level ≡ level = fits.level_is in
    let o = ancestor_of_part (λ z u g. at_inner r inner later g) (under (λ t. omega arith) (omega (arith, length-append inner later)) deep j₁) in
    rw (← q, e) (inr ((l.starts, l.ends), o, omega arith)))
    (λ j₁. inl (rw (← q) (lies more j₁).starts)))
    (λ i₁.
    let m : (n + 1 ≤ x) × (x < n + 1 + length inner) = at_bounds i₁ in
    at_cases r inner later j
    (λ d w. absurd (omega arith))
    (λ j₁.
    ⊎_elim
    (λ (w : end a ≤ b.offset). inl w)
    (λ (w : Inside b a × Ancestor (n + 1) inner x y × (a.level < b.level)). inr (w.0, ancestor_of_part (λ z u g. at_inner r inner later g) w.1, w.2))
    (after (omega (arith, length-append inner later)) deep i₁ j₁ h))
    (λ j₁.
    let u : end a ≤ end r = (lies deep i₁).ends in
    let v : end r ≤ b.offset = (lies more j₁).starts in
    inl (omega arith)))
    (λ i₁.
    let m : (n + 1 + length inner ≤ x) × (x < n + 1 + length inner + length later) = at_bounds i₁ in
    at_cases r inner later j
    (λ d w. absurd (omega arith))
    (λ j₁. absurd (let z : (n + 1 ≤ y) × (y < n + 1 + length inner) = at_bounds j₁ in omega arith))
    (λ j₁.
    ⊎_elim
    (λ (w : end a ≤ b.offset). inl w)
    (λ (w : Inside b a × Ancestor (n + 1 + length inner) later x y × (a.level < b.level)). inr (w.0, ancestor_of_part (λ z u g. at_later r inner later g) w.1, w.2))
    (after (omega (arith, length-append inner later)) more i₁ j₁ h)))
