-- One turn of the region walk's loop: what is left of the region, run from here, ends as it does when run from the next position.
-- By the try that the turn makes, and for a Box by the run of its child. Assumes nothing.
use mathlib.Core.Path.{◌≡◌, refl, ap, ap₂, sym, ◌∙◌, subst}
use mathlib.Core.List.{List, ◌∷◌, ◌++◌}
use mathlib.Core.Bool.{Bool, true, false, ◌&&◌}
use Prim.Native.Nat.{min, ℕ, ◌+◌, ◌-◌, ◌≤◌, ◌<◌, ◌^◌}
use native.Mathlib.Omega.{arith}
use native.Mathlib.Nat.{add-zero}
use lib.Dec.{leb, ltb}
use lib.ListN.{length, take, drop, length-take, length-drop}
use lib.Seq.{drop-drop, take_all, take-length}
use borrow.Author.Tests.{ltb-true, ltb-false}
use Rattle.basics.proofs.Parts.{tail_part}
use Rattle.header_judge.specs.Version.{word_of}
use Rattle.header_judge.specs.Head.{head_with, head_of}
use Rattle.header_judge.specs.Steps.{Known}
use Rattle.region_rows.specs.declared.Span.{Span}
use Rattle.region_try.specs.Stops.{Standing, no_byte}
use Rattle.region_try.specs.Tries.{Try, hit, try_of, deepest, rows_found, within, records, box_tries, region_tries}
use Rattle.region_try.specs.Whole.{clean_stop, keeps_whole}
use Rattle.region_try.specs.Steps.{Walk, state, try_at, found, counted, step, run, box_whole}
use Rattle.region_try.specs.declared.Cut.{Cut}
use Rattle.region_try.specs.declared.Cut.TheVariants.{Going, Full, Spent}
use Rattle.region_try.specs.declared.stop.Stop.{Stop}
use Rattle.region_try.specs.declared.stop.Stop.TheVariants.{Untold}
use Rattle.region_try.specs.declared.State.{State}
use Rattle.region_try.specs.declared.Found.{Found}
use Rattle.region_try.specs.declared.Found.TheVariants.{Nothing, NoRoom, Row}
use Rattle.header_judge.proofs.Heads.{head_known}
use Rattle.region_try.proofs.Heads.{Whence, hit_whence}
use Rattle.region_try.proofs.Finds.{Hit, found_nothing, found_row}
use Rattle.region_try.proofs.Tries.{records_end, records_first, records_stop, records_hit, within_plain, within_box, box_open}
use Rattle.region_try.proofs.Stops.{stands_hit, past_within, past_box}
use Rattle.region_try.proofs.Whole.{keeps_stop, keeps_plain, keeps_box}
use Rattle.region_try.proofs.Runs.{spent_going, full_going, step_spent, step_made, run_none, run_cons, run_append, run_cut, run_rows}
use Rattle.region_walk.specs.Steps.{walk_end, counts_of, end_where, stands_in, region_end}
use Rattle.region_walk.specs.declared.bounds.Bounds.{Bounds}
use Rattle.region_walk.specs.declared.Walked.{Walked}
use Rattle.region_walk.proofs.Ends.{cut_off, end_cut, ends_none, ends_cut, ends_stop, end_counts}

-- ---- parts of a list

-- the first d, where there are so many
held_part : (xs : List ℕ) (d k : ℕ) → k ≡ min d (length xs) → take k xs ≡ take d xs
held_part xs d k e = rw e (by (ltb (length xs) d) refl)
  where
    by : (q : Bool) → ltb (length xs) d ≡ q → take (min d (length xs)) xs ≡ take d xs
    by true f =
        let g : length xs < d = ltb-true _ _ f in
        let m : min d (length xs) ≡ length xs = omega arith in
        let l : length xs ≤ d = omega arith in
        rw m (take-length xs ∙ sym (take_all d xs l))
    by false f =
        let g : d ≤ length xs = ltb-false _ _ f in
        let m : min d (length xs) ≡ d = omega arith in
        rw m

-- a held part lies within the whole input
pub held_fits : (bs : List ℕ) (base at k : ℕ) → base + length bs < 2 ^ 32 → at ≤ length bs → base + at + length (take k (drop at bs)) < 2 ^ 32
held_fits bs base at k h g =
    let a : length (take k (drop at bs)) ≡ min k (length (drop at bs)) = length-take k (drop at bs) in
    let b : length (drop at bs) ≡ length bs - at = length-drop at bs in
    omega arith

-- ---- a Box that is opened

-- the counts of its child's walk are those of the tries inside it
pub child_counts : (rules : List ℕ) (limit room levels : ℕ) (held : List ℕ) (base size row : ℕ) (m : Walk) → 0 < levels → size ≤ length held
    → {t : List ℕ} {w : Walked} → ◌≡◌ {A = List ℕ × Walked} (t, w) (region_end limit room (levels - 1) (region_tries rules (levels - 1) (drop size held) (base + size) row (row + 1)) m)
    → ◌≡◌ {A = Walk} (t, counts_of w) (run limit room (box_tries rules levels held base size row) m)
child_counts rules limit room levels held base size row m p h e =
    rw (box_open rules levels held base size row p h) (end_counts _ _ e)

-- ---- the region from a position on

-- what does not change while a region is walked
pub record Place : Type 0 where
  pub rules : List ℕ
  pub bytes : List ℕ
  pub base : ℕ
  pub levels : ℕ
  pub parent : ℕ
  pub limit : ℕ
  pub room : ℕ

-- the place of a walk
abbrev pub placed : List ℕ → Bounds → ℕ → ℕ → ℕ → Place
placed bytes b base levels parent =
    record { rules = b.rules.now; bytes = bytes; base = base; levels = levels; parent = parent; limit = b.limit; room = b.room }

module _ (p : Place) where
  -- the bytes from a position on
  abbrev pub left : ℕ → List ℕ
  left at = drop at p.bytes

  -- the try at a position
  abbrev pub try_from : ℕ → Try
  try_from at = try_of (deepest - p.levels) p.parent (p.base + at) (length (left at)) (head_of p.rules (left at))

  -- the tries from a position on
  abbrev pub outer : ℕ → ℕ → List Try
  outer at n = records p.rules (box_tries p.rules p.levels) p.levels p.parent 0 (left at) (p.base + at) n

  -- the tries inside the record at a position
  abbrev pub inner : ℕ → Span → ℕ → List Try
  inner at r row = within (box_tries p.rules p.levels) (take r.declared (left at)) r row

  abbrev pub runs : List Try → Walk → Walk
  runs vs m = run p.limit p.room vs m

  -- some tries, run, as the end of this region's walk
  abbrev ends : List Try → Walk → List ℕ × Walked
  ends vs m = region_end p.limit p.room p.levels vs m

  -- what stands where the region stops, by its tries from somewhere on
  abbrev stands : List Try → Standing
  stands vs = stands_in p.levels vs

  -- the region run from a position on
  abbrev pub rest : ℕ → List ℕ → ℕ → ℕ → Bool → List ℕ × Walked
  rest at t rows tries whole = ends (outer at rows) (t, state rows tries whole Going)

  -- the whole region
  abbrev pub entire : List ℕ → ℕ → ℕ → Bool → List ℕ × Walked
  entire t rows tries whole = ends (region_tries p.rules p.levels p.bytes p.base p.parent rows) (t, state rows tries whole Going)

  pub rest_start : (t : List ℕ) (rows tries : ℕ) (whole : Bool) → entire t rows tries whole ≡ rest 0 t rows tries whole
  unfolding region_tries
  rest_start t rows tries whole = rw add-zero

  -- the code's variables are those of the place
  pub rest_same : (at : ℕ) {t t₁ : List ℕ} {rows rows₁ tries tries₁ : ℕ} {whole whole₁ : Bool}
      → t₁ ≡ t → rows₁ ≡ rows → tries₁ ≡ tries → whole₁ ≡ whole → rest at t rows tries whole ≡ rest at t₁ rows₁ tries₁ whole₁
  rest_same at e f g h = rw (← e, ← f, ← g, ← h)

  module _ (at : ℕ) (t : List ℕ) (rows tries : ℕ) (whole : Bool) where
    abbrev here : Walk
    here = (t, state rows tries whole Going)

    pub rest_end : length p.bytes ≤ at → rest at t rows tries whole ≡ end_where no_byte here
    rest_end h =
        ap (λ (vs : List Try). ends vs here)
        (records_end p.rules (box_tries p.rules p.levels) p.levels p.parent (left at) (p.base + at) rows (simp length-drop (omega arith)))
        ∙ ends_none p.limit p.room p.levels here

    -- the first try of what is left, and the others
    ahead : at < length p.bytes → (vs : List Try) × (outer at rows ≡ try_from at ∷ vs)
    ahead h = records_first p.rules (box_tries p.rules p.levels) p.levels p.parent (left at) (p.base + at) rows (simp length-drop (omega arith))

    -- a try that cuts the walk off
    rest_cut : at < length p.bytes → (m : Walk) → step p.limit p.room (try_from at) here ≡ m → (m.1.cut ≡ Going → ⊥) → rest at t rows tries whole ≡ cut_off m
    rest_cut h m e f =
        let a = ahead h in
        ap (λ (vs : List Try). ends vs here) a.1
        ∙ ends_cut p.limit p.room p.levels (try_from at) here m e a.0 f

    pub rest_spent : at < length p.bytes → p.limit ≤ tries → rest at t rows tries whole ≡ (t, walk_end rows tries false Spent Untold 0)
    rest_spent h g = rest_cut h (t, state rows tries false Spent) (step_spent p.limit p.room (try_from at) t rows tries whole g) spent_going

    -- a record: its try gives m₁, and what stands inside it m₂
    module _ (deep : p.levels ≤ deepest) (h : at < length p.bytes) (r : Span) (is : try_from at ≡ hit r) (some : 0 < r.declared) (m₁ m₂ : Walk)
        (made : step p.limit p.room (try_from at) here ≡ m₁) (ins : m₂ ≡ runs (inner at r rows) m₁) where
      -- the tries after it
      abbrev after : List Try
      after = outer (at + r.declared) (rows + 1 + length (rows_found (inner at r rows)))

      parted : outer at rows ≡ try_from at ∷ (inner at r rows ++ after)
      parted =
          let o : p.base + at + r.declared ≡ p.base + (at + r.declared) = omega arith in
          records_hit p.rules (box_tries p.rules p.levels) p.levels p.parent (left at) (p.base + at) rows r (simp length-drop (omega arith)) is some
          ∙ rw (drop-drop, o)

      -- neither it nor what stands inside it is where the region stops
      stands_after : stands (try_from at ∷ (inner at r rows ++ after)) ≡ stands after
      stands_after =
          rw is
          (stands_hit (deepest - p.levels) r (inner at r rows ++ after)
          ∙ past_within (deepest - p.levels) (box_tries p.rules p.levels) (past_box p.rules p.levels (deepest - p.levels) deep (omega arith))
          (take r.declared (left at)) r rows after)

      rest_record : rest at t rows tries whole ≡ ends after m₂
      rest_record =
          ap (λ (vs : List Try). ends vs here) parted
          ∙ ap₂ end_where stands_after
          (run_cons p.limit p.room (try_from at) (inner at r rows ++ after) here
          ∙ rw made (run_append p.limit p.room (inner at r rows) after m₁ ∙ rw (← ins)))

      -- the walk goes on after it
      rest_on : m₁.1.rows ≡ rows + 1 → m₂.1.cut ≡ Going → rest at t rows tries whole ≡ rest (at + r.declared) m₂.0 m₂.1.rows m₂.1.tries m₂.1.whole
      rest_on one g =
          let n : m₂.1.rows ≡ rows + 1 + length (rows_found (inner at r rows)) =
          ap (λ (m : Walk). m.1.rows) ins
          ∙ run_rows p.limit p.room (inner at r rows) m₁ (subst (λ (m : Walk). m.1.cut ≡ Going) ins g)
          ∙ ap (λ (k : ℕ). k + length (rows_found (inner at r rows))) one in
          rest_record
          ∙ ap (λ (k : ℕ). ends (outer (at + r.declared) k) m₂) (sym n)
          ∙ ap (λ (c : Cut). ends (outer (at + r.declared) m₂.1.rows) (m₂.0, state m₂.1.rows m₂.1.tries m₂.1.whole c)) g

      -- it is cut off inside
      rest_inside : (m₂.1.cut ≡ Going → ⊥) → rest at t rows tries whole ≡ cut_off m₂
      rest_inside g = rest_record ∙ ap (end_where (stands after)) (run_cut p.limit p.room after m₂ g) ∙ end_cut (stands after) m₂ g

  -- ---- a try

  -- what is known after the try of a turn
  pub record Tried (at : ℕ) (t t₁ : List ℕ) (rows tries : ℕ) (f : Found) : Type 0 where
    pub deep : p.levels ≤ deepest
    pub within : at < length p.bytes
    pub due : tries < p.limit
    pub gave : ◌≡◌ {A = List ℕ × Found} (t₁, f) (found p.room rows (try_from at) t)

module _ {p : Place} {at : ℕ} {t t₁ : List ℕ} {rows tries : ℕ} {f : Found} (y : Tried p at t t₁ rows tries f) (whole : Bool) where
  made : step p.limit p.room (try_from p at) (t, state rows tries whole Going) ≡ (t₁, counted rows (tries + 1) (whole && keeps_whole (try_from p at)) f)
  made = step_made p.limit p.room (try_from p at) t t₁ f rows tries whole y.due y.gave

  pub full_turn : f ≡ NoRoom → rest p at t rows tries whole ≡ (t₁, walk_end rows (tries + 1) false Full Untold 0)
  full_turn e =
      rest_cut p at t rows tries whole y.within (t₁, state rows (tries + 1) false Full)
      (made ∙ ap (λ (k : Found). (t₁, counted rows (tries + 1) (whole && keeps_whole (try_from p at)) k)) e) full_going

  some_left : 0 < length (left p at)
  some_left = let h = y.within in simp length-drop (omega arith)

  pub stop_turn : {stop : Stop} {type : ℕ} → f ≡ Nothing stop type → rest p at t rows tries whole ≡ (t₁, walk_end rows (tries + 1) (whole && clean_stop stop) Going stop type)
  stop_turn {stop} {type} e =
      let n = found_nothing p.room rows t t₁ stop type (try_from p at) (rw e at y.gave) in
      ap (λ (vs : List Try). ends p vs (t, state rows tries whole Going))
      (records_stop p.rules (box_tries p.rules p.levels) p.levels p.parent (left p at) (p.base + at) rows some_left n.is)
      ∙ ends_stop p.limit p.room p.levels p.parent (p.base + at) (length (left p at)) (head_of p.rules (left p at)) (t, state rows tries whole Going)
      (t₁, state rows (tries + 1) (whole && keeps_whole (try_from p at)) Going) n.is
      (made ∙ ap (λ (k : Found). (t₁, counted rows (tries + 1) (whole && keeps_whole (try_from p at)) k)) e)
      ∙ rw (keeps_stop n, ← n.why, ← n.bad)

  module _ {h d z : ℕ} {b : Bool} (e : f ≡ Row h d z b) where
    seen : Hit p.room rows (try_from p at) h d z b
    seen = found_row p.room rows t t₁ h d z b (try_from p at) (rw e at y.gave)

    from : Whence (deepest - p.levels) (p.base + at) (length (left p at)) (head_of p.rules (left p at)) seen.row
    from = hit_whence (deepest - p.levels) p.parent (p.base + at) (length (left p at)) (head_of p.rules (left p at)) seen.row seen.is

    pub row_free : rows < p.room
    row_free = seen.free

    pub row_held : at + h ≤ length p.bytes
    row_held =
        let i : at < length p.bytes = y.within in
        let j : h ≡ seen.row.held = seen.held in
        let k : seen.row.held ≡ min seen.row.declared (length (left p at)) = from.held in
        let l : length (left p at) ≡ length p.bytes - at = length-drop at p.bytes in
        omega arith

    -- the counts after the row
    abbrev more : State
    more = state (rows + 1) (tries + 1) (whole && keeps_whole (try_from p at)) Going

    made_row : step p.limit p.room (try_from p at) (t, state rows tries whole Going) ≡ (t₁, more)
    made_row = made ∙ ap (λ (k : Found). (t₁, counted rows (tries + 1) (whole && keeps_whole (try_from p at)) k)) e

    turn : (m₂ : Walk) → m₂ ≡ runs p (inner p at seen.row rows) (t₁, more) → m₂.1.cut ≡ Going → rest p at t rows tries whole ≡ rest p (at + d) m₂.0 m₂.1.rows m₂.1.tries m₂.1.whole
    turn m₂ ins g =
        rest_on p at t rows tries whole y.deep y.within seen.row seen.is from.some (t₁, more) m₂ made_row ins refl g
        ∙ ap (λ (k : ℕ). rest p (at + k) m₂.0 m₂.1.rows m₂.1.tries m₂.1.whole) (sym seen.declared)

    -- a record that is no Box
    pub plain_turn : b ≡ false → rest p at t rows tries whole ≡ rest p (at + d) t₁ (rows + 1) (tries + 1) (whole && leb d h)
    plain_turn k =
        turn (t₁, more)
        (sym (ap (λ (vs : List Try). runs p vs (t₁, more)) (within_plain (box_tries p.rules p.levels) (take seen.row.declared (left p at)) seen.row rows (sym seen.boxed ∙ k))
        ∙ run_none p.limit p.room (t₁, more)))
        refl
        ∙ ap (λ (w : Bool). rest p (at + d) t₁ (rows + 1) (tries + 1) w) (keeps_plain seen whole k)

    -- a Box, from what the code's call says
    module _ (k : b ≡ true) {t₂ : List ℕ} {s₂ : State}
        (ins : ◌≡◌ {A = Walk} (t₂, s₂) (runs p (box_tries p.rules p.levels (take (at + h - at) (left p at)) (p.base + at) z rows)
        (t₁, state (rows + 1) (tries + 1) (box_whole p.levels z (length (take (at + h - at) (left p at))) (whole && leb d h)) Going))) where
      -- the Box's own share in `whole`
      counts_box : box_whole p.levels z (length (take (at + h - at) (left p at))) (whole && leb d h) ≡ (whole && keeps_whole (try_from p at))
      counts_box =
          let n : length (take (at + h - at) (left p at)) ≡ h =
          let i : at + h ≤ length p.bytes = row_held in
          let l : length (left p at) ≡ length p.bytes - at = length-drop at p.bytes in
          let m : length (take (at + h - at) (left p at)) ≡ min (at + h - at) (length (left p at)) = length-take (at + h - at) (left p at) in
          omega arith in
          rw n (keeps_box seen whole (deepest - p.levels) k from.level)

      inside : ◌≡◌ {A = Walk} (t₂, s₂) (runs p (inner p at seen.row rows) (t₁, more))
      inside =
          let i : at + h - at ≡ min seen.row.declared (length (left p at)) =
          let j : h ≡ seen.row.held = seen.held in
          let l : seen.row.held ≡ min seen.row.declared (length (left p at)) = from.held in
          omega arith in
          rw (within_box (box_tries p.rules p.levels) (take seen.row.declared (left p at)) seen.row rows (sym seen.boxed ∙ k), from.offset, ← seen.size, ← held_part (left p at) seen.row.declared (at + h - at) i, ← counts_box) ins

      pub box_turn : s₂.cut ≡ Going → rest p at t rows tries whole ≡ rest p (at + d) t₂ s₂.rows s₂.tries s₂.whole
      box_turn g = turn (t₂, s₂) inside g

      pub box_cut : (s₂.cut ≡ Going → ⊥) → rest p at t rows tries whole ≡ cut_off (t₂, s₂)
      box_cut g = rest_inside p at t rows tries whole y.deep y.within seen.row seen.is from.some (t₁, more) (t₂, s₂) made_row inside g

-- ---- what the code's calls say

module _ (p : Place) (at word flags : ℕ) where
  -- the try of the code, at the part of the bytes that it is handed
  abbrev part : List ℕ
  part = take (length p.bytes - at) (left p at)

  pub tried_at : {t t₁ : List ℕ} {rows tries : ℕ} {f : Found} → p.levels ≤ deepest → at < length p.bytes → tries < p.limit
      → word ≡ word_of part → Known p.rules word flags
      → ◌≡◌ {A = List ℕ × Found} (t₁, f) (found p.room rows (try_at (deepest - p.levels) p.parent (p.base + at) part word flags) t)
      → Tried p at t t₁ rows tries f
  tried_at deep within due is_word is_flags gave =
      let h : head_with part word flags ≡ head_of p.rules part = head_known p.rules part word flags is_word is_flags in
      record { deep = deep; within = within; due = due; gave = rw (h, tail_part) at gave }
