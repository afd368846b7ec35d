-- The tries of the nested walk at level 0 are those of the walk with no Box opened.
-- By induction over the levels, and over the bytes within a level: each try inside a Box is of a deeper level. Assumes nothing.
use mathlib.Core.Path.{◌≡◌, refl, ap, ap₂, sym, ◌∙◌}
use mathlib.Core.List.{List, [], ◌∷◌, ◌++◌}
use mathlib.Core.Bool.{Bool, true, false, cond}
use mathlib.Core.Logic.{⊎_elim}
use Prim.Native.Nat.{ℕ, zero, suc, ◌+◌, ◌-◌, ◌≤◌, ◌<◌}
use native.Mathlib.Omega.{arith}
use lib.Dec.{eqb, leb}
use lib.ListN.{length, take, drop}
use borrow.Author.Tests.{eq-eqb, ne_eqb, eqb-true, eqb-false}
use Rattle.std.proofs.Common.{Ok, Err}
use Rattle.basics.proofs.Orders.{le_or_lt}
use Rattle.header_judge.specs.Head.{is_box, head_of, Head}
use Rattle.region_rows.specs.declared.Span.{Span}
use Rattle.region_rows.specs.Rows.{top}
use Rattle.region_try.specs.Stops.{Standing, header, stop_of, stop_number}
use Rattle.region_try.specs.Tries.{Try, none, hit, span_of, try_of, deepest, rows_found, stands_at, Inside, within, onward, records, box_tries, region_tries, all_tries}
use Rattle.region_try.proofs.Tries.{first, records_end, records_first, records_stop}
use Rattle.region_try.specs.declared.Cut.TheVariants.{Going}
use Rattle.region.specs.Listing.{number_of, type_of, listing_of}
use Rattle.region.specs.declared.Answer.{Answer}
use Rattle.region.specs.declared.Answer.TheVariants.{Done}
use Rattle.receiver.specs.Arrived.{closed, top_tries}
use Rattle.receiver.proofs.Arrived.{within_closed}
use Rattle.receiver_laws.specs.Received.{level_of, level_zero, listing_by, told_by, level_zero_part}

-- a try is of its region's level
try_level : (level parent offset left : ℕ) (head : Head) → level_of (try_of level parent offset left head) ≡ level
unfolding try_of
try_level level parent offset left (Err why) = refl
try_level level parent offset left (Ok s) = by (eqb s.declared 0)
  where
    by : (b : Bool) → level_of (cond b (none level offset (Ok s)) (hit (span_of level parent offset left s))) ≡ level
    by true = refl
    by false = refl

level_none : level_zero [] ≡ []
unfolding level_zero
level_none = refl

level_here : (v : Try) (vs : List Try) → level_of v ≡ 0 → level_zero (v ∷ vs) ≡ v ∷ level_zero vs
unfolding level_zero
level_here v vs e = rw (eq-eqb (level_of v) 0 e)

level_deeper : (v : Try) (vs : List Try) → (level_of v ≡ 0 → ⊥) → level_zero (v ∷ vs) ≡ level_zero vs
unfolding level_zero
level_deeper v vs f = rw (ne_eqb (level_of v) 0 f)

level_append : (us vs : List Try) → level_zero (us ++ vs) ≡ level_zero us ++ level_zero vs
unfolding level_zero
level_append [] vs = refl
level_append (u ∷ us) vs = ap (λ (ws : List Try). cond (eqb (level_of u) 0) (u ∷ ws) ws) (level_append us vs) ∙ by (eqb (level_of u) 0)
  where
    by : (b : Bool) → cond b (u ∷ (level_zero us ++ level_zero vs)) (level_zero us ++ level_zero vs) ≡ cond b (u ∷ level_zero us) (level_zero us) ++ level_zero vs
    by true = refl
    by false = refl

-- ---- deeper tries

abbrev DeepBox : Inside → Type 0
DeepBox box = (held : List ℕ) (offset size row : ℕ) → level_zero (box held offset size row) ≡ []

deep_within : (box : Inside) → DeepBox box → (held : List ℕ) (r : Span) (row : ℕ) → level_zero (within box held r row) ≡ []
deep_within box deep held r row = by (is_box r.word r.flags)
  where
    by : (b : Bool) → level_zero (cond b (box held r.offset r.size row) []) ≡ []
    by true = deep held r.offset r.size row
    by false = level_none

module _ (rules : List ℕ) where
  deep_onward : (box : Inside) → DeepBox box → (bs : List ℕ) (n : ℕ) (v : Try) (rest : ℕ → ℕ → List Try) → (level_of v ≡ 0 → ⊥)
      → ((k m : ℕ) → level_zero (rest k m) ≡ []) → level_zero (onward box bs n v rest) ≡ []
  unfolding onward
  deep_onward box deep bs n (none level offset head) rest f g = level_deeper (none level offset head) [] f ∙ level_none
  deep_onward box deep bs n (hit r) rest f g =
      let inner = within box (take r.declared bs) r n in
      level_deeper (hit r) _ f ∙ level_append inner _ ∙ ap₂ ◌++◌ (deep_within box deep (take r.declared bs) r n) (g (r.declared - 1) _)

  deep_records : (box : Inside) → DeepBox box → (levels parent skip : ℕ) → (deepest - levels ≡ 0 → ⊥) → (bs : List ℕ) (offset n : ℕ)
      → level_zero (records rules box levels parent skip bs offset n) ≡ []
  unfolding records
  deep_records box deep levels parent skip f [] offset n = level_none
  deep_records box deep levels parent (suc k) f (b ∷ bs) offset n = deep_records box deep levels parent k f bs (offset + 1) n
  deep_records box deep levels parent zero f (b ∷ bs) offset n =
      let v = try_of (deepest - levels) parent offset (length (b ∷ bs)) (head_of rules (b ∷ bs)) in
      let level : level_of v ≡ deepest - levels = try_level (deepest - levels) parent offset (length (b ∷ bs)) (head_of rules (b ∷ bs)) in
      deep_onward box deep (b ∷ bs) n v (λ k m. records rules box levels parent k bs (offset + 1) m) (λ e. f (sym level ∙ e))
      (λ k m. deep_records box deep levels parent k f bs (offset + 1) m)

  deep_box : (levels : ℕ) → levels ≤ deepest → DeepBox (box_tries rules levels)
  unfolding box_tries
  deep_box zero h held offset size row = level_none
  deep_box (suc k) h held offset size row = by (deep_box k (omega arith)) (leb size (length held))
    where
      deeper : deepest - k ≡ 0 → ⊥
      deeper e = omega arith

      by : DeepBox (box_tries rules k) → (b : Bool) → level_zero (cond b (records rules (box_tries rules k) k row 0 (drop size held) (offset + size) (row + 1)) []) ≡ []
      by deep true = deep_records (box_tries rules k) deep k row 0 deeper (drop size held) (offset + size) (row + 1)
      by deep false = level_none

  -- ---- tries at level 0

  -- whatever rows stand before
  flat_onward : (box : Inside) → DeepBox box → (bs : List ℕ) (n m : ℕ) (v : Try) (rest others : ℕ → ℕ → List Try) → level_of v ≡ 0
      → ((k i j : ℕ) → level_zero (rest k i) ≡ others k j) → level_zero (onward box bs n v rest) ≡ onward closed bs m v others
  unfolding onward
  flat_onward box deep bs n m (none level offset head) rest others e g =
      level_here (none level offset head) [] e ∙ ap (λ (vs : List Try). none level offset head ∷ vs) level_none
  flat_onward box deep bs n m (hit r) rest others e g =
      let held = take r.declared bs in
      level_here (hit r) _ e
      ∙ ap (λ (vs : List Try). hit r ∷ vs)
      (level_append (within box held r n) _
      ∙ ap₂ ◌++◌ (deep_within box deep held r n ∙ sym (within_closed held r m)) (g (r.declared - 1) _ _))

  flat_records : (box : Inside) → DeepBox box → (skip : ℕ) (bs : List ℕ) (offset n m : ℕ)
      → level_zero (records rules box deepest top skip bs offset n) ≡ records rules closed deepest top skip bs offset m
  unfolding records
  flat_records box deep skip [] offset n m = level_none
  flat_records box deep (suc k) (b ∷ bs) offset n m = flat_records box deep k bs (offset + 1) n m
  flat_records box deep zero (b ∷ bs) offset n m =
      let v = try_of 0 top offset (length (b ∷ bs)) (head_of rules (b ∷ bs)) in
      flat_onward box deep (b ∷ bs) n m v (λ k i. records rules box deepest top k bs (offset + 1) i) (λ k i. records rules closed deepest top k bs (offset + 1) i)
      (try_level 0 top offset (length (b ∷ bs)) (head_of rules (b ∷ bs)))
      (λ k i j. flat_records box deep k bs (offset + 1) i j)

  pub level_zero_lem : (bytes : List ℕ) → level_zero (all_tries rules bytes) ≡ top_tries rules bytes 0
  unfolding all_tries region_tries top_tries
  level_zero_lem bytes = flat_records (box_tries rules deepest) (deep_box deepest (omega arith)) 0 bytes 0 0 0

-- ---- where they stop, and the answer

pub level_stands : (vs : List Try) → stands_at 0 (level_zero vs) ≡ stands_at 0 vs
unfolding stands_at
level_stands [] = ap (stands_at 0) level_none
level_stands (none level offset head ∷ vs) = by (eqb level 0) refl (level_stands vs)
  where
    by : (b : Bool) → eqb level 0 ≡ b → stands_at 0 (level_zero vs) ≡ stands_at 0 vs
        → stands_at 0 (level_zero (none level offset head ∷ vs)) ≡ cond (eqb level 0) (header head) (stands_at 0 vs)
    by true e known = rw (level_here (none level offset head) vs (eqb-true level 0 e), e)
    by false e known = rw (level_deeper (none level offset head) vs (eqb-false level 0 e), e) known
level_stands (hit r ∷ vs) = by (eqb r.level 0) refl (level_stands vs)
  where
    by : (b : Bool) → eqb r.level 0 ≡ b → stands_at 0 (level_zero vs) ≡ stands_at 0 vs → stands_at 0 (level_zero (hit r ∷ vs)) ≡ stands_at 0 vs
    by true e known = rw (level_here (hit r) vs (eqb-true r.level 0 e)) known
    by false e known = rw (level_deeper (hit r) vs (eqb-false r.level 0 e)) known

-- the answer of some tries
abbrev answer_by : List Try → Answer
answer_by vs = (listing_by vs).answer

-- a record is the answer 0
answer_hit : (r : Span) (vs : List Try) → answer_by (hit r ∷ vs) ≡ Done
unfolding rows_found
answer_hit r vs = refl

pub level_answer : (rules bytes : List ℕ) → answer_by (level_zero (all_tries rules bytes)) ≡ answer_by (all_tries rules bytes)
unfolding all_tries region_tries
level_answer rules bytes = ⊎_elim
    (λ (end : length bytes ≤ 0). rw (records_end rules box deepest top bytes 0 0 end, level_none))
    (λ (some : 0 < length bytes). by some this refl)
    (le_or_lt (length bytes) 0)
  where
    box : Inside
    box = box_tries rules deepest

    all : List Try
    all = records rules box deepest top 0 bytes 0 0

    -- the first of them
    this : Try
    this = first rules box deepest top bytes 0

    level : level_of this ≡ 0
    level = try_level 0 top 0 (length bytes) (head_of rules bytes)

    by : 0 < length bytes → (v : Try) → this ≡ v → answer_by (level_zero all) ≡ answer_by all
    by some (none l o head) e =
        let stops = records_stop rules box deepest top bytes 0 0 some e in
        ap answer_by (ap level_zero stops ∙ level_here this [] level ∙ ap (λ (vs : List Try). this ∷ vs) level_none ∙ sym stops)
    by some (hit r) e =
        let goes = records_first rules box deepest top bytes 0 0 some in
        let vs : List Try = goes.0 in
        ap answer_by (ap level_zero goes.1 ∙ level_here this vs level ∙ ap (λ (v : Try). v ∷ level_zero vs) e) ∙ answer_hit r (level_zero vs)
        ∙ sym (ap answer_by (goes.1 ∙ ap (λ (v : Try). v ∷ vs) e) ∙ answer_hit r vs)

-- the level-0 part has the answer, the bad type and the stop of the listing itself
pub level_told : (rules bytes : List ℕ)
    → ((level_zero_part rules bytes).answer ≡ (told_by (all_tries rules bytes)).answer)
    × ((level_zero_part rules bytes).bad_type ≡ (told_by (all_tries rules bytes)).bad_type)
    × ((level_zero_part rules bytes).stop ≡ (told_by (all_tries rules bytes)).stop)
level_told rules bytes =
    let answer = level_answer rules bytes in
    (ap number_of answer, ap type_of answer, ap (λ (s : Standing). stop_number (stop_of s)) (level_stands (all_tries rules bytes)))

-- the listing is made of all its tries so
pub listing_told_lem : (rules bytes : List ℕ)
    → listing_by (all_tries rules bytes) ≡ listing_of rules bytes (record { rows = rows_found (all_tries rules bytes); tries = length (all_tries rules bytes); cut = Going })
listing_told_lem rules bytes = refl
