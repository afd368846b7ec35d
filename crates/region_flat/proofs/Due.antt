-- The tries that are still due at a place: the rest of its innermost level, then what is left of each level around it.
-- By what the tries of a region are at its first byte, and by induction over the levels. Assumes nothing.
use mathlib.Core.Path.{◌≡◌, refl, ap, sym, ◌∙◌}
use mathlib.Core.List.{List, [], ◌∷◌, ◌++◌, append_assoc}
use mathlib.Core.Logic.{⊎_elim}
use Prim.Native.Nat.{ℕ, zero, suc, ◌+◌, ◌-◌, ◌≤◌, ◌<◌, min}
use native.Mathlib.Omega.{arith}
use native.Mathlib.Nat.{add-zero}
use lib.ListN.{length, get_or, take, drop, set, length-take, length-drop, length-append}
use lib.Seq.{get_or-set_same, get_or-set_other, drop-drop, take-take, take_all}
use Rattle.basics.proofs.Orders.{le_or_lt}
use Rattle.basics.proofs.Parts.{drop-take}
use Rattle.header_judge.specs.Head.{head_of, Head}
use Rattle.region_rows.specs.declared.Span.{Span}
use Rattle.region_try.specs.Tries.{Try, none, hit, try_of, deepest, rows_found, within, box_tries, region_tries}
use Rattle.region_try.proofs.Tries.{rows_append, records_end, records_first, records_stop, records_hit}
use Rattle.region_flat.specs.declared.place.Level.{Level}
use Rattle.region_flat.specs.Steps.{past, inside}

-- ---- rows

rows_none : (l o : ℕ) (head : Head) (n : ℕ) → n + length (rows_found (none l o head ∷ [])) ≡ n
unfolding rows_found
rows_none l o head n = add-zero n

rows_hit : (r : Span) (us vs : List Try) (n : ℕ) → n + length (rows_found (hit r ∷ (us ++ vs))) ≡ n + 1 + length (rows_found us) + length (rows_found vs)
unfolding rows_found
rows_hit r us vs n =
    let a : length (rows_found (us ++ vs)) ≡ length (rows_found us) + length (rows_found vs) = ap length (rows_append us vs) ∙ length-append (rows_found us) (rows_found vs) in
    omega arith

-- ---- a part of some bytes

take_least : (d k h : ℕ) (xs : List ℕ) → h ≡ min d k → take d (take k xs) ≡ take h xs
take_least d k h xs e =
    ⊎_elim
    (λ (g : d ≤ k). let f : h ≡ d = omega arith in rw (take-take, f))
    (λ (g : k < d).
    let f : h ≡ k = omega arith in
    let a : length (take k xs) ≡ min k (length xs) = length-take k xs in
    rw (take_all d (take k xs) (omega arith), f))
    (le_or_lt d k)

-- ---- the levels

-- what a record of levels has where there is none
abbrev pub empty : Level
empty = record { at = 0; till = 0; parent = 0 }

module _ (rules bytes : List ℕ) where
  -- the bytes that are left in a level
  abbrev pub left : Level → List ℕ
  left x = take (x.till - x.at) (drop x.at bytes)

  -- the tries that are left in the level with a number, where n rows stand before them
  abbrev pub rest : ℕ → Level → ℕ → List Try
  rest l x n = region_tries rules (deepest - l) (left x) x.at x.parent n

  -- those that are left in the levels around it, from the inside out
  unfoldable pub rest_around : List Level → ℕ → ℕ → List Try
  rest_around xs zero n = []
  rest_around xs (suc l) n = rest l (get_or xs l empty) n ++ rest_around xs l (n + length (rows_found (rest l (get_or xs l empty) n)))

  -- all that are due
  abbrev pub due : List Level → ℕ → Level → ℕ → List Try
  due xs l x n = rest l x n ++ rest_around xs l (n + length (rows_found (rest l x n)))

  -- the try that is next
  abbrev pub next : ℕ → Level → Try
  next l x = try_of (deepest - (deepest - l)) x.parent x.at (length (left x)) (head_of rules (left x))

  -- the tries inside the record that is next
  abbrev pub inner : ℕ → Level → Span → ℕ → List Try
  inner l x r row = within (box_tries rules (deepest - l)) (take r.declared (left x)) r row

  pub left_length : (x : Level) → x.till ≤ length bytes → length (left x) ≡ x.till - x.at
  left_length x h = simp (length-take, length-drop) (omega arith)

  left_past : (x : Level) (d : ℕ) → left (past x d) ≡ drop d (left x)
  left_past x d =
      let e : x.till - x.at - d ≡ x.till - (x.at + d) = omega arith in
      sym (rw (drop-take d (x.till - x.at) (drop x.at bytes), drop-drop, e))

  pub left_inside : (x : Level) (h d z n : ℕ) → h ≡ min d (x.till - x.at) → left (inside x h z n) ≡ drop z (take d (left x))
  left_inside x h d z n e =
      let f : h - z ≡ x.at + h - (x.at + z) = omega arith in
      sym (rw (take_least d (x.till - x.at) h (drop x.at bytes) e, drop-take z h (drop x.at bytes), drop-drop, f))

  -- ---- the levels around

  pub around_none : (xs : List Level) (n : ℕ) → rest_around xs 0 n ≡ []
  unfolding rest_around
  around_none xs n = refl

  pub around_one : (xs : List Level) (l n : ℕ) → rest_around xs (suc l) n ≡ due xs l (get_or xs l empty) n
  unfolding rest_around
  around_one xs l n = refl

  below : (l m : ℕ) → m < l → m ≡ l → ⊥
  below l m h e = omega arith

  -- one that is kept changes none further out
  around_kept : (xs : List Level) (l : ℕ) (x : Level) (m : ℕ) → m ≤ l → (n : ℕ) → rest_around (set xs l x) m n ≡ rest_around xs m n
  unfolding rest_around
  around_kept xs l x zero h n = refl
  around_kept xs l x (suc m) h n =
      rw (get_or-set_other xs l m x empty (below l m h), around_kept xs l x m (omega arith))

  -- ---- the tries that are due

  module _ (xs : List Level) (l : ℕ) (x : Level) (n : ℕ) where
    due_as : (vs : List Try) → rest l x n ≡ vs → due xs l x n ≡ vs ++ rest_around xs l (n + length (rows_found vs))
    due_as vs e = rw e

    -- the level is at its end
    pub due_shut : x.till ≤ x.at → due xs l x n ≡ rest_around xs l n
    unfolding region_tries rows_found
    due_shut h =
        due_as [] (records_end rules (box_tries rules (deepest - l)) (deepest - l) x.parent (left x) x.at n (simp length-take (omega arith)))
        ∙ rw add-zero

    module _ (some : 0 < length (left x)) where
      -- the first, and the others
      pub due_first : (vs : List Try) × (due xs l x n ≡ next l x ∷ vs)
      unfolding region_tries
      due_first =
          let a = records_first rules (box_tries rules (deepest - l)) (deepest - l) x.parent (left x) x.at n some in
          (a.0 ++ rest_around xs l (n + length (rows_found (next l x ∷ a.0))), due_as (next l x ∷ a.0) a.1)

      -- the first finds no record
      pub due_stop : {k o : ℕ} {head : Head} → next l x ≡ none k o head → due xs l x n ≡ next l x ∷ rest_around xs l n
      unfolding region_tries
      due_stop {k} {o} {head} e =
          due_as (none k o head ∷ []) (records_stop rules (box_tries rules (deepest - l)) (deepest - l) x.parent (left x) x.at n some e ∙ rw e)
          ∙ rw (rows_none, e)

      -- the first finds a record
      module _ (r : Span) (e : next l x ≡ hit r) (declares : 0 < r.declared) where
        due_hit : due xs l x n ≡ next l x ∷ (inner l x r n ++ due xs l (past x r.declared) (n + 1 + length (rows_found (inner l x r n))))
        unfolding region_tries
        due_hit =
            let after = rest l (past x r.declared) (n + 1 + length (rows_found (inner l x r n))) in
            due_as (hit r ∷ (inner l x r n ++ after))
            (records_hit rules (box_tries rules (deepest - l)) (deepest - l) x.parent (left x) x.at n r some e declares ∙ rw (e, left_past x r.declared))
            ∙ rw (rows_hit, e, append_assoc (inner l x r n) after)

        -- and nothing inside it
        pub due_past : inner l x r n ≡ [] → due xs l x n ≡ next l x ∷ due xs l (past x r.declared) (n + 1)
        unfolding rows_found
        due_past i = due_hit ∙ rw (i, add-zero)

        -- and a level inside it, around which what is left of this one is kept
        pub due_inside : (y : Level) → l < length xs → inner l x r n ≡ rest (suc l) y (n + 1)
            → due xs l x n ≡ next l x ∷ due (set xs l (past x r.declared)) (suc l) y (n + 1)
        due_inside y h i =
            let outermost : l ≤ l = omega arith in
            due_hit
            ∙ rw (i, around_one, get_or-set_same xs l (past x r.declared) empty h, around_kept xs l (past x r.declared) l outermost)
