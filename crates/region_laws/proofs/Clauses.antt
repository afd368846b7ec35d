-- A listing is whole exactly when each of document 02's four clauses holds; three of them a region meets by itself.
-- By taking `whole` apart over the tries: those that stop a region are the regions' stops, the others the rows. Assumes nothing.
use mathlib.Core.Path.{◌≡◌, refl, ap, ap₂, sym, ◌∙◌}
use mathlib.Core.List.{List, [], ◌∷◌, ◌++◌}
use mathlib.Core.Bool.{Bool, true, false, cond, not, ◌&&◌, and_assoc}
use mathlib.Core.Logic.{inl, inr, ⊎_elim, ◌↔◌}
use Prim.Native.Nat.{ℕ, zero, suc, ◌+◌, ◌-◌, ◌≤◌, ◌<◌}
use native.Mathlib.Omega.{arith}
use lib.Dec.{eqb, leb, ltb}
use lib.ListN.{length, take, drop}
use borrow.Author.Tests.{eq-eqb, eqb-true, le-leb, leb-true, ltb-true, lt-ltb, not-true}
use Rattle.std.proofs.Common.{Ok, Err}
use Rattle.basics.proofs.Bools.{both}
use Rattle.basics.proofs.Orders.{le_or_lt}
use Rattle.header_judge.specs.Head.{is_box, head_of, Head}
use Rattle.region_rows.specs.declared.Span.{Span}
use Rattle.region_rows.specs.Rows.{top, capacity}
use Rattle.region_rows.proofs.Rows.{spans_laid}
use Rattle.region_try.specs.Stops.{stop_by, stop_of, bad_type_of}
use Rattle.region_try.specs.Tries.{Try, none, hit, span_of, try_of, deepest, rows_found, Inside, within, onward, records, box_tries, region_tries, all_tries}
use Rattle.region_try.specs.Whole.{clean_stop, filled, box_unopened, keeps_whole, all_keep_whole}
use Rattle.region_try.specs.declared.stop.Stop.{Stop}
use Rattle.region.specs.Listing.{Shown, number_of, whole_of, top_stands, shown, showing, walked, listed}
use Rattle.region.specs.declared.Answer.{Answer}
use Rattle.region.specs.declared.Listing.{Listing}
use Rattle.region.proofs.Shows.{listed_cases}
use Rattle.region_laws.specs.Nested.{by_head, following, Gather, in_region, in_box, gathered}
use Rattle.region_laws.specs.Reach.{onto, reach, standing_in, standing_last}
use Rattle.region_laws.specs.Clauses.{Every, rows_of, regions_walked, Answered, Held, Clean, StoppedClean, Opened, IsWhole, KeepsWhole}
use Rattle.region_laws.specs.Whole.{all_rows}
use Rattle.region_laws.proofs.Shown.{going_rows}
use Rattle.region_laws.proofs.Refusals.{uncut}
use Rattle.region_laws.proofs.Reach.{told_stands}

-- ---- tests of each in a list

unfoldable all : {A : Type 0} → (A → Bool) → List A → Bool
all f [] = true
all f (x ∷ xs) = f x && all f xs

all_append : {A : Type 0} (f : A → Bool) (xs ys : List A) → all f (xs ++ ys) ≡ (all f xs && all f ys)
unfolding all
all_append f [] ys = refl
all_append f (x ∷ xs) ys = ap (λ (b : Bool). f x && b) (all_append f xs ys) ∙ sym (and_assoc (f x) (all f xs) (all f ys))

all_every : {A : Type 0} (f : A → Bool) (P : A → Type 0) → ((x : A) → (f x ≡ true) ↔ P x) → (xs : List A) → (all f xs ≡ true) ↔ Every P xs
unfolding all Every
all_every f P exactly [] = (λ e. tt, λ e. refl)
all_every f P exactly (x ∷ xs) =
    let rest = all_every f P exactly xs in (
      λ e. let q = both (f x) (all f xs) e in ((exactly x).0 q.0, rest.0 q.1),
      λ q. rw ((exactly x).1 q.0, rest.1 q.1),
    )

-- two tests side by side, of which the second goes before the first
swapped : (a b c : Bool) → (a && (b && c)) ≡ (b && (a && c))
swapped true b c = refl
swapped false true c = refl
swapped false false c = refl

all_both : {A : Type 0} (f g : A → Bool) (xs : List A) → all (λ (x : A). f x && g x) xs ≡ (all f xs && all g xs)
unfolding all
all_both f g [] = refl
all_both f g (x ∷ xs) =
    ap (λ (b : Bool). f x && g x && b) (all_both f g xs)
    ∙ and_assoc (f x) (g x) (all f xs && all g xs)
    ∙ ap (λ (b : Bool). f x && b) (swapped (g x) (all f xs) (all g xs))
    ∙ sym (and_assoc (f x) (all f xs) (g x && all g xs))

-- ---- the tries: those that stop a region, and the rows

abbrev stops_clean : Try → Bool
stops_clean (none level offset head) = clean_stop (stop_by head)
stops_clean (hit r) = true

abbrev row_keeps : Span → Bool
row_keeps r = filled r && not (box_unopened r)

keeps_parts : (vs : List Try) → all_keep_whole vs ≡ (all stops_clean vs && all row_keeps (rows_found vs))
unfolding all_keep_whole keeps_whole all rows_found
keeps_parts [] = refl
keeps_parts (none l o head ∷ vs) =
    ap (λ (b : Bool). clean_stop (stop_by head) && b) (keeps_parts vs)
    ∙ sym (and_assoc (clean_stop (stop_by head)) (all stops_clean vs) (all row_keeps (rows_found vs)))
keeps_parts (hit r ∷ vs) = ap (λ (b : Bool). row_keeps r && b) (keeps_parts vs) ∙ swapped (row_keeps r) (all stops_clean vs) (all row_keeps (rows_found vs))

-- ---- the regions walked

module _ (rules : List ℕ) where
  -- is what stands at the start of some bytes a clean stop?
  abbrev clean_in : List ℕ → Bool
  clean_in bs = clean_stop (stop_of (standing_in rules bs))

  -- does a region stop clean?
  abbrev clean : List ℕ → Bool
  clean region = clean_stop (stop_of (standing_last rules region))

  -- the regions inside a region, and inside a Box
  abbrev regions_in : Gather (List ℕ) → ℕ → List ℕ → ℕ → List (List ℕ)
  regions_in = in_region rules (λ (region : List ℕ). region ∷ []) (λ (at : ℕ). [])

  abbrev regions_of : ℕ → Gather (List ℕ)
  regions_of = in_box rules (λ (region : List ℕ). region ∷ []) (λ (at : ℕ). [])

  -- the tries inside a Box stop as its regions do
  abbrev Agree : Inside → Gather (List ℕ) → Type 0
  Agree box regions = (held : List ℕ) (offset size row : ℕ) → all stops_clean (box held offset size row) ≡ all clean (regions offset held size)

  module _ (box : Inside) (regions : Gather (List ℕ)) (agree : Agree box regions) where
    within_clean : (boxed : Bool) (held : List ℕ) (offset size row : ℕ) → all stops_clean (cond boxed (box held offset size row) []) ≡ all clean (cond boxed (regions offset held size) [])
    unfolding all
    within_clean true held offset size row = agree held offset size row
    within_clean false held offset size row = refl

    onward_clean : (level parent offset b : ℕ) (bs : List ℕ) (n : ℕ) (head : Head) (rest : ℕ → ℕ → List Try) (after : ℕ → List (List ℕ))
        → head_of rules (b ∷ bs) ≡ head → ((k m : ℕ) → all stops_clean (rest k m) ≡ (clean_in (drop (reach rules k bs) bs) && all clean (after k)))
        → all stops_clean (onward box (b ∷ bs) n (try_of level parent offset (length (b ∷ bs)) head) rest)
        ≡ (clean_in (drop (onto head (λ skip. reach rules skip bs)) (b ∷ bs)) && all clean (following (regions offset) (b ∷ bs) head after))
    unfolding onward try_of by_head all
    onward_clean level parent offset b bs n (Err why) rest after e go = rw e
    onward_clean level parent offset b bs n (Ok s) rest after e go = by (eqb s.declared 0)
      where
        row : Span
        row = span_of level parent offset (length (b ∷ bs)) s

        inner : List Try
        inner = within box (take s.declared (b ∷ bs)) row n

        held : List (List ℕ)
        held = cond (is_box s.word s.flags) (regions offset (take s.declared (b ∷ bs)) s.size) []

        later : List Try
        later = rest (s.declared - 1) (n + 1 + length (rows_found inner))

        by : (b₁ : Bool)
            → all stops_clean (onward box (b ∷ bs) n (cond b₁ (none level offset (Ok s)) (hit row)) rest)
            ≡ (clean_in (drop (cond b₁ 0 (suc (reach rules (s.declared - 1) bs))) (b ∷ bs)) && all clean (cond b₁ [] (held ++ after (s.declared - 1))))
        by true = rw e
        by false =
            all_append stops_clean inner later
            ∙ ap₂ (λ (a c : Bool). a && c) (within_clean (is_box s.word s.flags) (take s.declared (b ∷ bs)) offset s.size n) (go (s.declared - 1) (n + 1 + length (rows_found inner)))
            ∙ swapped (all clean held) (clean_in (drop (reach rules (s.declared - 1) bs) bs)) (all clean (after (s.declared - 1)))
            ∙ ap (λ (a : Bool). clean_in (drop (reach rules (s.declared - 1) bs) bs) && a) (sym (all_append clean held (after (s.declared - 1))))

    records_clean : (levels parent skip : ℕ) (bs : List ℕ) (offset n : ℕ)
        → all stops_clean (records rules box levels parent skip bs offset n) ≡ (clean_in (drop (reach rules skip bs) bs) && all clean (regions_in regions skip bs offset))
    unfolding records reach in_region all
    records_clean levels parent zero [] offset n = refl
    records_clean levels parent (suc k) [] offset n = refl
    records_clean levels parent (suc k) (b ∷ bs) offset n = records_clean levels parent k bs (offset + 1) n
    records_clean levels parent zero (b ∷ bs) offset n =
        onward_clean (deepest - levels) parent offset b bs n (head_of rules (b ∷ bs))
        (λ k m. records rules box levels parent k bs (offset + 1) m) (λ k. regions_in regions k bs (offset + 1)) refl
        (λ k m. records_clean levels parent k bs (offset + 1) m)

  box_clean : (levels : ℕ) → Agree (box_tries rules levels) (regions_of levels)
  unfolding box_tries in_box all
  box_clean zero held offset size row = refl
  box_clean (suc l) held offset size row = by (box_clean l) (leb size (length held))
    where
      by : Agree (box_tries rules l) (regions_of l) → (b : Bool)
          → all stops_clean (cond b (records rules (box_tries rules l) l row 0 (drop size held) (offset + size) (row + 1)) [])
          ≡ all clean (cond b (drop size held ∷ regions_in (regions_of l) 0 (drop size held) (offset + size)) [])
      by agree true = records_clean (box_tries rules l) (regions_of l) agree l row 0 (drop size held) (offset + size) (row + 1)
      by agree false = refl

  -- the tries that stop a region are the stops of the regions walked
  all_clean : (bytes : List ℕ) → all stops_clean (all_tries rules bytes) ≡ all clean (regions_walked rules bytes)
  unfolding all_tries region_tries gathered all
  all_clean bytes = records_clean (box_tries rules deepest) (regions_of deepest) (box_clean deepest) deepest top 0 bytes 0 0

-- ---- the clauses

clean_exactly : (stop : Stop) → (clean_stop stop ≡ true) ↔ Clean stop
clean_exactly stop = (by stop, ⊎_elim (λ e. rw e) (⊎_elim (λ e. rw e) (λ e. rw e)))
  where
    by : (stop : Stop) → clean_stop stop ≡ true → Clean stop
    by Stop.Untold e = absurd (let z : ◌≡◌ {A = ℕ} 0 1 = cc in omega arith)
    by Stop.EndOfInput e = inl refl
    by Stop.ZeroWord e = inr (inl refl)
    by Stop.DeadbeefWord e = inr (inr refl)
    by Stop.FewBytes e = absurd (let z : ◌≡◌ {A = ℕ} 0 1 = cc in omega arith)
    by Stop.BadHeader e = absurd (let z : ◌≡◌ {A = ℕ} 0 1 = cc in omega arith)
    by Stop.BadType e = absurd (let z : ◌≡◌ {A = ℕ} 0 1 = cc in omega arith)
    by Stop.SizeZero e = absurd (let z : ◌≡◌ {A = ℕ} 0 1 = cc in omega arith)

held_exactly : (r : Span) → (filled r ≡ true) ↔ Held r
held_exactly r = (
  λ e h. let g : r.declared ≤ r.held = leb-true _ _ e in omega arith,
  λ f. ⊎_elim (λ g. le-leb _ _ g) (λ h. absurd (f h)) (le_or_lt r.declared r.held),
)

abbrev opens : Span → Bool
opens r = not (box_unopened r)

opened_exactly : (r : Span) → (opens r ≡ true) ↔ Opened r
opened_exactly r = (λ e boxed level size. shut boxed level size (not-true (box_unopened r) e), by (box_unopened r) refl)
  where
    shut : is_box r.word r.flags ≡ true → r.level < deepest → r.held < r.size → box_unopened r ≡ false → ⊥
    shut boxed level size e =
        let s : box_unopened r ≡ true = rw (boxed, lt-ltb _ _ level, lt-ltb _ _ size) in
        let z : ◌≡◌ {A = ℕ} 0 1 = cc in
        omega arith

    by : (b : Bool) → box_unopened r ≡ b → Opened r → not b ≡ true
    by false e f = refl
    by true e f =
        let boxed = both (is_box r.word r.flags) _ e in
        let sizes = both (ltb r.level deepest) (ltb r.held r.size) boxed.1 in
        absurd (f boxed.0 (ltb-true _ _ sizes.0) (ltb-true _ _ sizes.1))

-- `whole` by the answer and the tries
pub whole_by : (answer : Answer) (vs : List Try) → (whole_of answer vs ≡ true) ↔ ((number_of answer ≡ 0) × (all_keep_whole vs ≡ true))
whole_by answer vs = (
  λ w. let q = both (eqb (number_of answer) 0) (all_keep_whole vs) w in (eqb-true _ _ q.0, q.1),
  λ q. rw (eq-eqb _ _ q.0, q.1),
)

module _ (rules bytes : List ℕ) where
  abbrev rows : List Span
  rows = all_rows rules bytes

  each_held : (all filled rows ≡ true) ↔ Every Held rows
  each_held = all_every filled Held held_exactly rows

  each_stopped : (all (clean rules) (regions_walked rules bytes) ≡ true) ↔ Every (StoppedClean rules) (regions_walked rules bytes)
  each_stopped = all_every (clean rules) (StoppedClean rules) (λ region. clean_exactly (stop_of (standing_last rules region))) (regions_walked rules bytes)

  each_opened : (all opens rows ≡ true) ↔ Every Opened rows
  each_opened = all_every opens Opened opened_exactly rows

  -- every try keeps it whole: the regions, the rows and the Boxes each do
  parts : all_keep_whole (all_tries rules bytes) ≡ (all (clean rules) (regions_walked rules bytes) && (all filled rows && all opens rows))
  parts = keeps_parts (all_tries rules bytes) ∙ ap₂ (λ (a c : Bool). a && c) (all_clean rules bytes) (all_both filled opens rows)

  pub keeps_exactly : (all_keep_whole (all_tries rules bytes) ≡ true) ↔ KeepsWhole rules bytes
  keeps_exactly = (
    λ e.
        let regions = both (all (clean rules) (regions_walked rules bytes)) (all filled rows && all opens rows) (sym parts ∙ e) in
        let each = both (all filled rows) (all opens rows) regions.1 in
        record { held = each_held.0 each.0; stopped = each_stopped.0 regions.0; opened = each_opened.0 each.1 },
    λ k. rw (parts, each_stopped.1 k.stopped, each_held.1 k.held, each_opened.1 k.opened),
  )

  module _ (limit : ℕ) (t : List ℕ) where
    abbrev seen : Shown
    seen = shown limit (capacity t) (all_tries rules bytes)

    abbrev end : List ℕ × Listing
    end = showing rules bytes t seen

    -- with answer 0 the rows in the table are all that the walk finds
    rows_are : Answered end → rows_of end ≡ rows
    rows_are e =
        spans_laid seen.rows t
        ∙ going_rows limit (capacity t) (all_tries rules bytes) (uncut seen.cut (length seen.rows) (stop_of (top_stands rules bytes)) (bad_type_of (top_stands rules bytes)) (omega (arith, e)))

    clauses : (end.1.whole ≡ true) ↔ IsWhole rules bytes end
    clauses = (
      λ w.
          let q = (whole_by end.1.answer (all_tries rules bytes)).0 w in
          let k = keeps_exactly.0 q.1 in
          record { answered = q.0; held = rw (rows_are q.0) k.held; stopped = k.stopped; opened = rw (rows_are q.0) k.opened },
      λ x.
          let e = rows_are x.answered in
          (whole_by end.1.answer (all_tries rules bytes)).1
          (x.answered, keeps_exactly.1 (record { held = rw e at x.held; stopped = x.stopped; opened = rw e at x.opened })),
    )

module _ (rules bytes : List ℕ) (limit : ℕ) (t : List ℕ) where
  -- document 02, C-14
  pub whole_exactly : ((listed rules bytes limit t).1.whole ≡ true) ↔ IsWhole rules bytes (listed rules bytes limit t)
  unfolding walked
  whole_exactly =
      listed_cases (λ (x : List ℕ × Listing). (x.1.whole ≡ true) ↔ IsWhole rules bytes x) rules bytes limit t
      (λ e. absurd (let z : ◌≡◌ {A = ℕ} 0 1 = cc in omega arith), λ x. absurd (let a = x.answered in omega arith))
      (λ e. absurd (let z : ◌≡◌ {A = ℕ} 0 1 = cc in omega arith), λ x. absurd (let a = x.answered in omega arith))
      (λ short valid. clauses rules bytes limit t)

  -- why the top region of a whole listing stopped, as it is told
  pub whole_stop : (listed rules bytes limit t).1.whole ≡ true → Clean (listed rules bytes limit t).1.stop
  unfolding Every gathered
  whole_stop w =
      let x = whole_exactly.0 w in
      rw (told_stands rules bytes limit t (rw x.answered)) x.stopped.0
