-- A run from the start gives the listing: rows laid one after the other are the rows shown, laid at once.
-- By induction over the tries, and over the rows. Assumes nothing.
use mathlib.Core.Path.{◌≡◌, refl, ap, sym, subst, ◌∙◌}
use mathlib.Core.List.{List, [], ◌∷◌}
use mathlib.Core.Logic.{⊎_elim}
use mathlib.Core.Bool.{Bool, true, false, cond, ◌&&◌, and-true, and-false}
use Prim.Native.Nat.{ℕ, zero, suc, ◌+◌, ◌-◌, ◌*◌, ◌≤◌, ◌<◌, min}
use native.Mathlib.Omega.{arith}
use native.Mathlib.Nat.{add-zero, zero-add, sub-zero, div-mul-le_self}
use lib.Dec.{eqb, ltb}
use lib.ListN.{length}
use borrow.Author.Tests.{lt-ltb, le-ltb, ltb-false}
use Rattle.answers.specs.Numbers.{most_bytes}
use Rattle.basics.proofs.Orders.{le_or_lt}
use Rattle.rules.specs.Rules.{valid_of}
use Rattle.header_judge.specs.Head.{is_box, Head}
use Rattle.region_rows.specs.declared.Span.{Span}
use Rattle.region_rows.specs.Rows.{width, top, most_rows, capacity, with_span, laid, stored}
use Rattle.region_rows.proofs.Rows.{stored_none, stored_more, stored_laid}
use Rattle.region_try.specs.Stops.{stop_by, bad_type_by, Standing, standing_told, stop_of, bad_type_of}
use Rattle.region_try.specs.Tries.{Try, none, hit, deepest, region_tries, all_tries}
use Rattle.region_try.specs.Whole.{keeps_whole, all_keep_whole}
use Rattle.region_try.specs.Steps.{Walk, state, step, run}
use Rattle.region_walk.specs.Steps.{end_where, region_end}
use Rattle.region_walk.specs.declared.Walked.{Walked}
use Rattle.region.specs.Listing.{number_of, answer_of, top_stands, Shown, tried, tried_row, shown, refusal, listing_at, tries_showing, showing, walked, listed}
use Rattle.region.specs.declared.Answer.TheVariants.{TooLong, BadRules}
use Rattle.region.specs.declared.Listing.{Listing}
use Rattle.region_try.specs.declared.Cut.{Cut}
use Rattle.region_try.specs.declared.Cut.TheVariants.{Going, Full, Spent}
use Rattle.region_try.specs.declared.stop.Stop.{Stop}
use Rattle.region_try.specs.declared.Found.TheVariants.{Nothing, NoRoom, Row}
use Rattle.region_try.proofs.Heads.{stopped}
use Rattle.region_try.proofs.Finds.{finds_nothing, finds_no_room, finds_row}
use Rattle.region_try.proofs.Runs.{spent_going, full_going, step_spent, step_made, run_none, run_cons, run_cut}
use Rattle.region_try.proofs.Bound.{all_bound, bytes_are_units}

-- ---- the definition's cases, as equations

shown_end : (limit room : ℕ) → shown limit room [] ≡ record { rows = []; tries = 0; cut = Going }
unfolding shown
shown_end limit room = refl

shown_spent : (room : ℕ) (v : Try) (vs : List Try) → shown 0 room (v ∷ vs) ≡ record { rows = []; tries = 0; cut = Spent }
unfolding shown
shown_spent room v vs = refl

shown_none : (limit room : ℕ) (l o : ℕ) (head : Head) (vs : List Try) → shown (suc limit) room (none l o head ∷ vs) ≡ tried (shown limit room vs)
unfolding shown
shown_none limit room l o head vs = refl

shown_full : (limit : ℕ) (r : Span) (vs : List Try) → shown (suc limit) 0 (hit r ∷ vs) ≡ record { rows = []; tries = 1; cut = Full }
unfolding shown
shown_full limit r vs = refl

shown_hit : (limit room : ℕ) (r : Span) (vs : List Try) → shown (suc limit) (suc room) (hit r ∷ vs) ≡ tried_row r (shown limit room vs)
unfolding shown
shown_hit limit room r vs = refl

-- ---- `whole`

-- is a walk not cut off?
abbrev uncut : Cut → Bool
uncut Going = true
uncut Full = false
uncut Spent = false

-- `whole` at the end of some tries
abbrev marked : Bool → Cut → List Try → Bool
marked whole cut vs = whole && (uncut cut && all_keep_whole vs)

marked_none : (whole : Bool) → marked whole Going [] ≡ whole
unfolding all_keep_whole
marked_none whole = and-true whole

marked_full : (whole : Bool) (vs : List Try) → marked whole Full vs ≡ false
marked_full whole vs = and-false whole

marked_spent : (whole : Bool) (vs : List Try) → marked whole Spent vs ≡ false
marked_spent whole vs = and-false whole

marked_more : (whole : Bool) (cut : Cut) (v : Try) (vs : List Try) → marked (whole && keeps_whole v) cut vs ≡ marked whole cut (v ∷ vs)
unfolding all_keep_whole
marked_more whole cut v vs = by whole (keeps_whole v) (uncut cut)
  where
    by : (w k c : Bool) → (w && k && (c && all_keep_whole vs)) ≡ (w && (c && (k && all_keep_whole vs)))
    by false k c = refl
    by true true c = refl
    by true false true = refl
    by true false false = refl

-- with answer 0 nothing is cut off
marked_answer : (cut : Cut) (n : ℕ) (stop : Stop) (type : ℕ) (keeps : Bool)
    → (eqb (number_of (answer_of cut n stop type)) 0 && (uncut cut && keeps)) ≡ (eqb (number_of (answer_of cut n stop type)) 0 && keeps)
marked_answer Going n stop type keeps = refl
marked_answer Full n stop type keeps = refl
marked_answer Spent n stop type keeps = refl

-- ---- a run

-- the run of some tries that ends as shown, from a table with q rows, n tries and a mark
abbrev shows : List Try → List ℕ → ℕ → ℕ → Bool → Shown → Walk
shows vs t q n whole s = (stored t q s.rows, state (q + length s.rows) (n + s.tries) (marked whole s.cut vs) s.cut)

module _ (limit room : ℕ) where
  -- a run that goes on after a try, and one that the try ends
  run_on : (v : Try) (vs : List Try) (m m₁ : Walk) → step limit room v m ≡ m₁ → run limit room (v ∷ vs) m ≡ run limit room vs m₁
  run_on v vs m m₁ e = run_cons limit room v vs m ∙ ap (λ (k : Walk). run limit room vs k) e

  run_ends : (v : Try) (vs : List Try) (m m₁ : Walk) → step limit room v m ≡ m₁ → (m₁.1.cut ≡ Going → ⊥) → run limit room (v ∷ vs) m ≡ m₁
  run_ends v vs m m₁ e f = run_on v vs m m₁ e ∙ run_cut limit room vs m₁ f

  run_spent : (v : Try) (vs : List Try) (t : List ℕ) (q n : ℕ) (whole : Bool) → limit ≤ n
      → run limit room (v ∷ vs) (t, state q n whole Going) ≡ shows (v ∷ vs) t q n whole (shown (limit - n) (room - q) (v ∷ vs))
  run_spent v vs t q n whole h =
      let z : limit - n ≡ 0 = omega arith in
      run_ends v vs (t, state q n whole Going) (t, state q n false Spent) (step_spent limit room v t q n whole h) spent_going
      ∙ rw (z, shown_spent, stored_none, marked_spent, add-zero q, add-zero n)

  run_shows : (vs : List Try) (t : List ℕ) (q n : ℕ) (whole : Bool)
      → run limit room vs (t, state q n whole Going) ≡ shows vs t q n whole (shown (limit - n) (room - q) vs)
  run_shows [] t q n whole = rw (run_none, shown_end, stored_none, marked_none whole, add-zero q, add-zero n)
  run_shows (none l o head ∷ vs) t q n whole = ⊎_elim
      (λ h. run_spent (none l o head) vs t q n whole h)
      (λ h.
      let z : limit - n ≡ suc (limit - (n + 1)) = omega arith in
      let i : n + 1 + (shown (limit - (n + 1)) (room - q) vs).tries ≡ n + suc (shown (limit - (n + 1)) (room - q) vs).tries = omega arith in
      let whole₁ = whole && keeps_whole (none l o head) in
      run_on (none l o head) vs (t, state q n whole Going) (t, state q (n + 1) whole₁ Going)
      (step_made limit room (none l o head) t t (Nothing (stop_by head) (bad_type_by head)) q n whole h (finds_nothing room q t (stopped l o head)))
      ∙ run_shows vs t q (n + 1) whole₁
      ∙ rw (z, shown_none, marked_more, i))
      (le_or_lt limit n)
  run_shows (hit r ∷ vs) t q n whole = ⊎_elim
      (λ h. run_spent (hit r) vs t q n whole h)
      (λ h. ⊎_elim
      (λ g.
      let z : limit - n ≡ suc (limit - (n + 1)) = omega arith in
      let y : room - q ≡ 0 = omega arith in
      run_ends (hit r) vs (t, state q n whole Going) (t, state q (n + 1) false Full)
      (step_made limit room (hit r) t t NoRoom q n whole h (finds_no_room room q t refl g)) full_going
      ∙ rw (z, y, shown_full, stored_none, marked_full, add-zero q))
      (λ g.
      let z : limit - n ≡ suc (limit - (n + 1)) = omega arith in
      let y : room - q ≡ suc (room - (q + 1)) = omega arith in
      let t₁ = with_span t q r in
      let whole₁ = whole && keeps_whole (hit r) in
      let s = shown (limit - (n + 1)) (room - (q + 1)) vs in
      let i : n + 1 + s.tries ≡ n + suc s.tries = omega arith in
      let j : q + 1 + length s.rows ≡ q + suc (length s.rows) = omega arith in
      run_on (hit r) vs (t, state q n whole Going) (t₁, state (q + 1) (n + 1) whole₁ Going)
      (step_made limit room (hit r) t t₁ (Row r.held r.declared r.size (is_box r.word r.flags)) q n whole h (finds_row room q t refl g))
      ∙ run_shows vs t₁ (q + 1) (n + 1) whole₁
      ∙ rw (z, y, shown_hit, stored_more, marked_more, i, j))
      (le_or_lt room q))
      (le_or_lt limit n)

-- no more rows than room
shown_room : (limit room : ℕ) (vs : List Try) → length (shown limit room vs).rows ≤ room
unfolding shown
shown_room limit room [] = omega arith
shown_room zero room (v ∷ vs) = omega arith
shown_room (suc limit) room (none l o head ∷ vs) = shown_room limit room vs
shown_room (suc limit) zero (hit r ∷ vs) = omega arith
shown_room (suc limit) (suc room) (hit r ∷ vs) = let h : length (shown limit room vs).rows ≤ room = shown_room limit room vs in omega arith

-- ---- room

-- two rooms that have a row for each try show the same
room_enough : (limit a b : ℕ) (vs : List Try) → length vs ≤ a → length vs ≤ b → shown limit a vs ≡ shown limit b vs
unfolding shown
room_enough limit a b [] h g = refl
room_enough zero a b (v ∷ vs) h g = refl
room_enough (suc limit) a b (none l o head ∷ vs) h g = ap (λ (s : Shown). tried s) (room_enough limit a b vs (omega arith) (omega arith))
room_enough (suc limit) zero b (hit r ∷ vs) h g = absurd (omega arith)
room_enough (suc limit) (suc a) zero (hit r ∷ vs) h g = absurd (omega arith)
room_enough (suc limit) (suc a) (suc b) (hit r ∷ vs) h g = ap (λ (s : Shown). tried_row r s) (room_enough limit a b vs (omega arith) (omega arith))

-- a cap that is never met
capped : (limit room cap : ℕ) (vs : List Try) → length vs ≤ cap → shown limit (min room cap) vs ≡ shown limit room vs
capped limit room cap vs h =
    ⊎_elim
    (λ g. let e : min room cap ≡ room = omega arith in rw e)
    (λ g. room_enough limit (min room cap) room vs (omega arith) (omega arith))
    (le_or_lt room cap)

-- the answer by what is told
answer_told : (cut : Cut) (n : ℕ) (s : Standing) → answer_of cut n (stop_of (standing_told cut s)) (bad_type_of (standing_told cut s)) ≡ answer_of cut n (stop_of s) (bad_type_of s)
answer_told Going n s = refl
answer_told Full n s = refl
answer_told Spent n s = refl

-- ---- any tries, from an empty table

-- the table and the listing at the end of a walk
abbrev pub made : List ℕ × Walked → List ℕ × Listing
made m = (m.0, listing_at m.1)

module _ (limit room : ℕ) (vs : List Try) (t : List ℕ) (fits : room ≤ capacity t) where
  abbrev part : Shown
  part = shown limit room vs

  laid_eq : stored t 0 part.rows ≡ laid part.rows t
  laid_eq =
      let a : length part.rows ≤ room = shown_room limit room vs in
      stored_laid part.rows t (omega arith)

  runs : run limit room vs (t, state 0 0 true Going) ≡ (laid part.rows t, state (length part.rows) part.tries (marked true part.cut vs) part.cut)
  runs =
      run_shows limit room vs t 0 0 true
      ∙ rw (sub-zero limit, sub-zero room, zero-add (length part.rows), zero-add part.tries, laid_eq)

  -- the rows shown fit the table
  pub rows_fit : length part.rows * width ≤ length t
  rows_fit =
      let a : length part.rows ≤ room = shown_room limit room vs in
      omega (arith, div-mul-le_self (length t) width)

  -- the listing of a walk that makes them
  pub run_listed : (standing : Standing) → made (end_where standing (run limit room vs (t, state 0 0 true Going))) ≡ tries_showing standing vs t part
  run_listed standing = ap (λ (m : Walk). made (end_where standing m)) runs ∙ rw (answer_told part.cut (length part.rows) standing, marked_answer)

-- ---- the listing of a region

module _ (rules bytes : List ℕ) (limit : ℕ) (t : List ℕ) where
  pub listed_long : most_bytes < length bytes → ◌≡◌ {A = List ℕ × Listing} (t, refusal TooLong) (listed rules bytes limit t)
  unfolding listed
  listed_long h = rw (lt-ltb most_bytes (length bytes) h)

  module _ (h : length bytes ≤ most_bytes) where
    pub listed_rules : valid_of rules ≡ false → ◌≡◌ {A = List ℕ × Listing} (t, refusal BadRules) (listed rules bytes limit t)
    unfolding listed
    listed_rules g = rw (le-ltb most_bytes (length bytes) h, g)

    pub listed_walked : valid_of rules ≡ true → listed rules bytes limit t ≡ walked rules bytes limit t
    unfolding listed
    listed_walked g = rw (le-ltb most_bytes (length bytes) h, g)

    -- the cap on the room is never met
    pub uncapped : shown limit (min (capacity t) most_rows) (all_tries rules bytes) ≡ shown limit (capacity t) (all_tries rules bytes)
    uncapped =
        let a : length (all_tries rules bytes) ≤ 5 * length bytes = all_bound rules (λ n. n) (bytes_are_units rules) bytes in
        capped limit (capacity t) most_rows (all_tries rules bytes) (omega arith)

    pub listed_run : valid_of rules ≡ true → (m : List ℕ × Walked)
        → m ≡ region_end limit (min (capacity t) most_rows) deepest (region_tries rules deepest bytes 0 top 0) (t, state 0 0 true Going)
        → made m ≡ listed rules bytes limit t
    unfolding all_tries walked
    listed_run g m e =
        ap made e
        ∙ run_listed limit (min (capacity t) most_rows) (region_tries rules deepest bytes 0 top 0) t (omega arith) (top_stands rules bytes)
        ∙ ap (showing rules bytes t) uncapped
        ∙ sym (listed_walked g)

-- ---- every listing

-- what holds of both refusals, and of the walk where nothing is refused, holds of the listing
pub listed_cases : (P : List ℕ × Listing → Type 0) (rules bytes : List ℕ) (limit : ℕ) (t : List ℕ)
    → P (t, refusal TooLong) → P (t, refusal BadRules) → (length bytes ≤ most_bytes → valid_of rules ≡ true → P (walked rules bytes limit t))
    → P (listed rules bytes limit t)
unfolding listed
listed_cases P rules bytes limit t long bad work = by (ltb most_bytes (length bytes)) (valid_of rules) refl refl
  where
    by : (a b : Bool) → ltb most_bytes (length bytes) ≡ a → valid_of rules ≡ b → P (cond a (t, refusal TooLong) (cond b (walked rules bytes limit t) (t, refusal BadRules)))
    by true b e f = long
    by false true e f = work (ltb-false most_bytes (length bytes) e) f
    by false false e f = bad

-- its rows fit the table
abbrev pub Fits : List ℕ → List ℕ × Listing → Type 0
Fits t x = x.1.rows * width ≤ length t

listed_fits : (rules bytes : List ℕ) (limit : ℕ) (t : List ℕ) → Fits t (listed rules bytes limit t)
unfolding walked
listed_fits rules bytes limit t =
    listed_cases (Fits t) rules bytes limit t (omega arith) (omega arith) (λ short valid. rows_fit limit (capacity t) (all_tries rules bytes) t (omega arith))

-- and so do those of what equals it
pub equal_fits : (t : List ℕ) {x y : List ℕ × Listing} → Fits t y → x ≡ y → (x ≡ y) × Fits t x
equal_fits t f e = (e, subst (Fits t) (sym e) f)

pub with_fit : (rules bytes : List ℕ) (limit : ℕ) (t : List ℕ) {x : List ℕ × Listing} → x ≡ listed rules bytes limit t → (x ≡ listed rules bytes limit t) × Fits t x
with_fit rules bytes limit t e = equal_fits t (listed_fits rules bytes limit t) e
