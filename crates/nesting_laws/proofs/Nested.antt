-- A nest of level 0 has all that is said of nested rows.
-- From what a nest says of one row, of two, and of the children of one. Assumes nothing.
use mathlib.Core.Path.{◌≡◌, refl, sym, ◌∙◌}
use mathlib.Core.List.{List}
use mathlib.Core.Logic.{◌⊎◌, inl, inr, ⊎_elim, ◌↔◌}
use Prim.Native.Nat.{ℕ, ◌+◌, ◌≤◌, ◌<◌}
use native.Mathlib.Omega.{arith}
use lib.ListN.{length}
use Rattle.basics.proofs.Orders.{le_or_lt}
use Rattle.region_rows.specs.declared.Span.{Span}
use Rattle.region_rows.specs.Rows.{top}
use Rattle.nesting_laws.specs.Nesting.{end, ShareNoByte, Inside, At, Ancestor, direct, further, Stand, apart, second_inside, first_inside, NeverCross}
use Rattle.nesting_laws.specs.Nesting.{LevelsAscend, outermost, child, ParentsBefore, Nested}
use Rattle.nesting_laws.proofs.Numbers.{at_bounds, at_once}
use Rattle.nesting_laws.proofs.Nest.{Nest}
use Rattle.nesting_laws.proofs.Stands.{Numbered, Encloses, Below, lies, hung, after}
use Rattle.nesting_laws.proofs.Children.{first_starts, next_child}

module _ {first low high : ℕ} {rows : List Span} (few : Numbered first rows) (nest : Nest 0 top low high first rows) where
  never_cross : NeverCross first rows
  never_cross i j a b u v ne =
      ⊎_elim
      (λ (h : i ≤ j).
      ⊎_elim
      (λ (w : end a ≤ b.offset). apart (λ k f g. omega arith))
      (λ (w : Inside b a × Ancestor first rows i j × (a.level < b.level)). second_inside w.0 w.1)
      (after few nest u v (omega arith)))
      (λ (h : j < i).
      ⊎_elim
      (λ (w : end b ≤ a.offset). apart (λ k f g. omega arith))
      (λ (w : Inside a b × Ancestor first rows j i × (b.level < a.level)). first_inside w.0 w.1)
      (after few nest v u h))
      (le_or_lt i j)

  levels_ascend : LevelsAscend first rows
  levels_ascend i j a b u v h e =
      let some : 0 < a.held = (lies nest u).some_held in
      ⊎_elim
      (λ (w : end a ≤ b.offset). (omega arith, w))
      (λ (w : Inside b a × Ancestor first rows i j × (a.level < b.level)). absurd (let d = w.2 in omega arith))
      (after few nest u v h)

  parents_before : ParentsBefore first rows
  parents_before i r u =
      ⊎_elim
      (λ (w : (r.level ≡ 0) × (r.parent ≡ top)). outermost w.0 w.1)
      (λ (w : Below first rows i r). child w.above w.at w.before)
      (hung nest u)

  -- a row that names a parent has a row of that number around it
  by_parent : {C : Type 0} {p i : ℕ} {b : Span} → b.parent ≡ p → (p ≡ top → ⊥) → At first rows i b
      → ((c : Span) → At first rows p c → Encloses c b → C) → C
  by_parent {i} {b} e named v so =
      ⊎_elim
      (λ (w : (b.level ≡ 0) × (b.parent ≡ top)). absurd (named (sym e ∙ w.1)))
      (λ (w : Below first rows i b). so w.above (rw e at w.at) w.encloses)
      (hung nest v)

  -- and no other row has that number
  encloses : {p i : ℕ} {a b : Span} → At first rows p a → At first rows i b → b.parent ≡ p → Encloses a b
  encloses {p} u v e =
      let m : (first ≤ p) × (p < first + length rows) = at_bounds u in
      by_parent e (λ t. omega arith) v (λ c at around. rw (at_once at u) at around)

  inside_ancestors : {p i : ℕ} {a b : Span} → Ancestor first rows p i → At first rows p a → At first rows i b → Inside b a
  inside_ancestors (direct d) u v = (encloses u v (rw (at_once d.at v) at d.number)).1
  inside_ancestors {a} {b} (further o d) u v =
      by_parent (rw (at_once d.at v) at d.number) d.named v
      (λ c at around.
      let inner : Inside b c = around.1 in
      let outer : Inside c a = inside_ancestors o u at in
      (omega arith, omega arith))

  pub nested : Nested first low high rows
  nested =
      record {
        never_cross = never_cross;
        inside_ancestors = λ p i a b u v o. inside_ancestors o u v;
        levels_ascend = levels_ascend;
        parents_before = parents_before;
        levels_deepen = λ p i a b u v e. (encloses u v e).0;
        parents_are_boxes = λ p i a b u v e. (encloses u v e).2;
        first_after_header = λ i j a b u v h e none. next_child (λ k l. omega arith) nest u v h (inl (e, refl)) (λ k c g l m q. none k c g l m (q ∙ e));
        children_follow = λ i j a b u v h e none. next_child (λ k l. omega arith) nest u v h (inr (sym e, refl)) none;
        first_at_start = λ r u. first_starts nest u (λ k c g h e. let m : (first ≤ k) × (k < first + length rows) = at_bounds g in omega arith);
        rows_lie = λ i r u. let l = lies nest u in (l.some_held, l.starts, l.ends);
      }

-- ---- what follows from it

-- a row that holds a byte and lies inside another shares it
inside_shares : (a b : Span) → 0 < b.held → Inside b a → ShareNoByte a b → ⊥
inside_shares a b some inside none = none b.offset (omega arith, omega arith) (omega arith, omega arith)

-- two different rows share a byte exactly when one is an ancestor of the other
pub shared_exactly : {first low high : ℕ} {rows : List Span} → Nested first low high rows → (i j : ℕ) (a b : Span) → At first rows i a → At first rows j b → (i ≡ j → ⊥)
    → (ShareNoByte a b → ⊥) ↔ (Ancestor first rows i j ⊎ Ancestor first rows j i)
shared_exactly {first} {rows} nested i j a b u v ne = (λ shared. by shared (nested.never_cross i j a b u v ne), back)
  where
    by : (ShareNoByte a b → ⊥) → Stand first rows i j a b → Ancestor first rows i j ⊎ Ancestor first rows j i
    by shared (apart none) = absurd (shared none)
    by shared (second_inside inside o) = inl o
    by shared (first_inside inside o) = inr o

    back : Ancestor first rows i j ⊎ Ancestor first rows j i → ShareNoByte a b → ⊥
    back (inl o) none = inside_shares a b (nested.rows_lie j b v).0 (nested.inside_ancestors i j a b u v o) none
    back (inr o) none = inside_shares b a (nested.rows_lie i a u).0 (nested.inside_ancestors j i b a v u o) (λ k f g. none k g f)
