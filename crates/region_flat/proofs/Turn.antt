-- One turn of the flat walk's loop: the first of the tries that are due is made, and the place then holds the others.
-- By what the try finds. Assumes nothing.
use mathlib.Core.Path.{◌≡◌, ap, sym, ◌∙◌}
use mathlib.Core.List.{List, [], ◌∷◌, append-nil}
use mathlib.Core.Bool.{Bool, true, false, ◌&&◌}
use Prim.Native.Nat.{min, ℕ, zero, suc, ◌+◌, ◌-◌, ◌*◌, ◌≤◌, ◌<◌}
use native.Mathlib.Omega.{arith}
use lib.Dec.{leb}
use lib.ListN.{length, get_or, take, set, replicate, length-take, length-set}
use lib.Seq.{take-length}
use Rattle.header_judge.specs.Version.{word_of}
use Rattle.header_judge.specs.Head.{head_with, head_of}
use Rattle.header_judge.specs.Steps.{Known}
use Rattle.header_judge.proofs.Heads.{head_known}
use Rattle.region_rows.specs.Rows.{top}
use Rattle.region_try.specs.Stops.{header}
use Rattle.region_try.specs.Tries.{Try, deepest, box_tries, region_tries}
use Rattle.region_try.specs.Whole.{clean_stop, keeps_whole}
use Rattle.region_try.specs.Steps.{Walk, state, try_at, found, counted, step, box_whole, RowBounds}
use Rattle.region_try.specs.declared.Cut.TheVariants.{Going, Full, Spent}
use Rattle.region_try.specs.declared.stop.Stop.{Stop}
use Rattle.region_try.specs.declared.stop.Stop.TheVariants.{Untold, EndOfInput}
use Rattle.region_try.specs.declared.Found.{Found}
use Rattle.region_try.specs.declared.Found.TheVariants.{Nothing, NoRoom, Row}
use Rattle.region_try.proofs.Heads.{Stopped, Whence, hit_whence, none_level}
use Rattle.region_try.proofs.Finds.{Hit, found_nothing, found_row}
use Rattle.region_try.proofs.Tries.{within_plain, within_box, box_deep, box_short, box_open}
use Rattle.region_try.proofs.Stops.{stands_hit, stands_past}
use Rattle.region_try.proofs.Whole.{keeps_stop, keeps_plain, keeps_box, box_shut, box_header}
use Rattle.region_try.proofs.Runs.{spent_going, full_going, step_spent, step_made}
use Rattle.region_walk.specs.Steps.{going, walk_end, end_where, stands_in, region_end}
use Rattle.region_walk.specs.declared.Walked.{Walked}
use Rattle.region_walk.proofs.Ends.{ends_none, ends_cut, ends_on, ends_stop}
use Rattle.region_flat.specs.declared.place.Level.{Level}
use Rattle.region_flat.specs.Steps.{past, inside}
use Rattle.region_flat.proofs.Due.{empty, left, rest, rest_around, due, next, inner, left_length, left_inside, around_none, around_one, due_shut, due_first, due_stop, due_past, due_inside}

-- ---- a place

-- what does not change in a walk
pub record Whole : Type 0 where
  pub rules : List ℕ
  pub bytes : List ℕ
  pub limit : ℕ
  pub room : ℕ

-- that of a walk, from what it is lent
abbrev pub walked : List ℕ → List ℕ → ℕ → ℕ → Whole
walked bytes rules limit room = record { rules = rules; bytes = bytes; limit = limit; room = room }

-- the levels around the innermost, its number, and itself
pub record Place : Type 0 where
  pub around : List Level
  pub level : ℕ
  pub here : Level

abbrev pub place : List Level → ℕ → Level → Place
place around level here = record { around = around; level = level; here = here }

-- every kept level ends within so many bytes
abbrev pub Within : List Level → ℕ → Type 0
Within xs n = (l : ℕ) → (get_or xs l empty).till ≤ n

pub within_none : (n many : ℕ) → Within (replicate many empty) n
within_none n zero l = omega arith
within_none n (suc many) zero = omega arith
within_none n (suc many) (suc l) = within_none n many l

within_set : (xs : List Level) (n i : ℕ) (x : Level) → Within xs n → x.till ≤ n → Within (set xs i x) n
within_set [] n i x f h l = f l
within_set (y ∷ ys) n zero x f h zero = h
within_set (y ∷ ys) n zero x f h (suc l) = f (suc l)
within_set (y ∷ ys) n (suc i) x f h zero = f 0
within_set (y ∷ ys) n (suc i) x f h (suc l) = within_set ys n i x (λ j. f (suc j)) h l

module _ (p : Whole) where
  -- the tries that are due at a place
  abbrev pub dues : Place → ℕ → List Try
  dues k rows = due p.rules p.bytes k.around k.level k.here rows

  -- the try that is next
  abbrev pub visit : Place → Try
  visit k = next p.rules p.bytes k.level k.here

  abbrev ends : List Try → Walk → List ℕ × Walked
  ends vs m = region_end p.limit p.room deepest vs m

  -- the end of a walk from a place on
  abbrev pub ahead : Place → List ℕ → ℕ → ℕ → Bool → List ℕ × Walked
  ahead k t rows tries whole = ends (dues k rows) (going t rows tries whole)

  -- what holds of a place: there are five levels at most, and each ends within the bytes
  pub record Placed (k : Place) : Type 0 where
    pub deep : k.level ≤ deepest
    pub five : length k.around ≡ 5
    pub inside : Within k.around (length p.bytes)
    pub fits : k.here.till ≤ length p.bytes

  -- the whole input, from its start
  abbrev pub entire : List ℕ → List ℕ × Walked
  entire t = ends (region_tries p.rules deepest p.bytes 0 top 0) (going t 0 0 true)

  pub ahead_start : (xs : List Level) (t : List ℕ) → entire t ≡ ahead (place xs 0 (record { at = 0; till = length p.bytes; parent = top })) t 0 0 true
  ahead_start xs t =
      let all : length p.bytes - 0 ≡ length p.bytes = omega arith in
      sym (ap (λ (vs : List Try). ends vs (going t 0 0 true)) (rw (around_none p.rules p.bytes xs, append-nil, all, take-length)))

  -- ---- a level that is at its end

  module _ (k : Place) (shut : k.here.till ≤ k.here.at) where
    pub ahead_end : k.level ≡ 0 → (t : List ℕ) (rows tries : ℕ) (whole : Bool) → ahead k t rows tries whole ≡ (t, walk_end rows tries whole Going EndOfInput 0)
    ahead_end e t rows tries whole =
        ap (λ (vs : List Try). ends vs (going t rows tries whole))
        (due_shut p.rules p.bytes k.around k.level k.here rows shut ∙ rw (e, around_none p.rules p.bytes k.around rows))
        ∙ ends_none p.limit p.room deepest (going t rows tries whole)

    -- the place in the level around it
    module _ (m : ℕ) (e : k.level ≡ suc m) where
      abbrev back : Place
      back = place k.around m (get_or k.around m empty)

      dues_back : (rows : ℕ) → dues k rows ≡ dues back rows
      dues_back rows = due_shut p.rules p.bytes k.around k.level k.here rows shut ∙ rw (e, around_one p.rules p.bytes k.around m rows)

      pub ahead_back : (t : List ℕ) (rows tries : ℕ) (whole : Bool) → ahead k t rows tries whole ≡ ahead back t rows tries whole
      ahead_back t rows tries whole = ap (λ (vs : List Try). ends vs (going t rows tries whole)) (dues_back rows)

      pub falls_back : (rows : ℕ) → 2 * length (dues back rows) + m < 2 * length (dues k rows) + k.level
      falls_back rows = let i : length (dues k rows) ≡ length (dues back rows) = ap length (dues_back rows) in omega arith

      pub placed_back : Placed k → Placed back
      placed_back y = record { deep = omega (arith, y.deep); five = y.five; inside = y.inside; fits = y.inside m }

  -- ---- the first of the tries that are due

  -- a place with a try that is due
  pub record Ready (k : Place) : Type 0 where
    pub some : k.here.at < k.here.till
    pub place : Placed k

  module _ {k : Place} (y : Ready k) where
    long : length (left p.rules p.bytes k.here) ≡ k.here.till - k.here.at
    long = left_length p.rules p.bytes k.here y.place.fits

    some_left : 0 < length (left p.rules p.bytes k.here)
    some_left = let e = long in let s = y.some in omega arith

    first : (rows : ℕ) → (vs : List Try) × (dues k rows ≡ visit k ∷ vs)
    first rows = due_first p.rules p.bytes k.around k.level k.here rows some_left

    -- it cuts the walk off
    ahead_cut : (t : List ℕ) (rows tries : ℕ) (whole : Bool) (m : Walk) → step p.limit p.room (visit k) (going t rows tries whole) ≡ m → (m.1.cut ≡ Going → ⊥)
        → ahead k t rows tries whole ≡ (m.0, walk_end m.1.rows m.1.tries m.1.whole m.1.cut Untold 0)
    ahead_cut t rows tries whole m e f =
        ap (λ (vs : List Try). ends vs (going t rows tries whole)) (first rows).1
        ∙ ends_cut p.limit p.room deepest (visit k) (going t rows tries whole) m e (first rows).0 f

    pub ahead_spent : (t : List ℕ) (rows tries : ℕ) (whole : Bool) → p.limit ≤ tries → ahead k t rows tries whole ≡ (t, walk_end rows tries false Spent Untold 0)
    ahead_spent t rows tries whole h = ahead_cut t rows tries whole (t, state rows tries false Spent) (step_spent p.limit p.room (visit k) t rows tries whole h) spent_going

  -- ---- a try

  -- what is known after the try of a turn
  pub record Tried (k : Place) (t t₁ : List ℕ) (rows tries : ℕ) (f : Found) : Type 0 where
    pub ready : Ready k
    pub due : tries < p.limit
    pub gave : ◌≡◌ {A = List ℕ × Found} (t₁, f) (found p.room rows (visit k) t)
    pub bounded : RowBounds f

  -- from what the code's calls say
  pub tried_at : {k : Place} {t t₁ : List ℕ} {rows tries : ℕ} {f : Found} (word flags : ℕ) → Ready k → tries < p.limit
      → word ≡ word_of (left p.rules p.bytes k.here) → Known p.rules word flags
      → ◌≡◌ {A = List ℕ × Found} (t₁, f) (found p.room rows (try_at k.level k.here.parent k.here.at (left p.rules p.bytes k.here) word flags) t)
      → RowBounds f → Tried k t t₁ rows tries f
  tried_at {k} word flags ready due is_word known gave bounded =
      let here : head_with (left p.rules p.bytes k.here) word flags ≡ head_of p.rules (left p.rules p.bytes k.here) =
      head_known p.rules (left p.rules p.bytes k.here) word flags is_word known in
      let depth : deepest - (deepest - k.level) ≡ k.level = omega (arith, ready.place.deep) in
      record { ready = ready; due = due; gave = rw depth (rw here at gave); bounded = bounded }

module _ {p : Whole} {k : Place} {t t₁ : List ℕ} {rows tries : ℕ} {f : Found} (y : Tried p k t t₁ rows tries f) (whole : Bool) where
  -- the walk before the try
  abbrev before : Walk
  before = going t rows tries whole

  made : step p.limit p.room (visit p k) before ≡ (t₁, counted rows (tries + 1) (whole && keeps_whole (visit p k)) f)
  made = step_made p.limit p.room (visit p k) t t₁ f rows tries whole y.due y.gave

  made_as : (g : Found) → f ≡ g → step p.limit p.room (visit p k) before ≡ (t₁, counted rows (tries + 1) (whole && keeps_whole (visit p k)) g)
  made_as g e = made ∙ ap (λ (x : Found). (t₁, counted rows (tries + 1) (whole && keeps_whole (visit p k)) x)) e

  pub full_turn : f ≡ NoRoom → ahead p k t rows tries whole ≡ (t₁, walk_end rows (tries + 1) false Full Untold 0)
  full_turn e = ahead_cut p y.ready t rows tries whole (t₁, state rows (tries + 1) false Full) (made_as NoRoom e) full_going

  -- what a turn leads to: a place, with so many rows, whose tries are the others, and from which the walk ends as it does
  pub record On (k₁ : Place) (rows₁ : ℕ) (whole₁ : Bool) : Type 0 where
    pub place : Placed p k₁
    pub low : k₁.level ≤ k.level + 1
    pub others : dues p k rows ≡ visit p k ∷ dues p k₁ rows₁
    pub same : ahead p k t rows tries whole ≡ ahead p k₁ t₁ rows₁ (tries + 1) whole₁

  pub falls_on : {k₁ : Place} {rows₁ : ℕ} {whole₁ : Bool} → On k₁ rows₁ whole₁ → 2 * length (dues p k₁ rows₁) + k₁.level < 2 * length (dues p k rows) + k.level
  falls_on {k₁} {rows₁} n =
      let i : length (dues p k rows) ≡ suc (length (dues p k₁ rows₁)) = ap length n.others in
      omega (arith, n.low)

  goes_on : (k₁ : Place) (rows₁ : ℕ) (whole₁ : Bool) → dues p k rows ≡ visit p k ∷ dues p k₁ rows₁
      → stands_in deepest (visit p k ∷ dues p k₁ rows₁) ≡ stands_in deepest (dues p k₁ rows₁) → step p.limit p.room (visit p k) before ≡ going t₁ rows₁ (tries + 1) whole₁
      → ahead p k t rows tries whole ≡ ahead p k₁ t₁ rows₁ (tries + 1) whole₁
  goes_on k₁ rows₁ whole₁ others stands e =
      ap (λ (vs : List Try). ends p vs before) others
      ∙ ends_on p.limit p.room deepest (visit p k) before (going t₁ rows₁ (tries + 1) whole₁) e (dues p k₁ rows₁) stands

  -- ---- no record

  module _ {stop : Stop} {type : ℕ} (e : f ≡ Nothing stop type) where
    stops : Stopped (visit p k) stop type
    stops = found_nothing p.room rows t t₁ stop type (visit p k) (rw e at y.gave)

    stop_made : step p.limit p.room (visit p k) before ≡ going t₁ rows (tries + 1) (whole && clean_stop stop)
    stop_made = made_as (Nothing stop type) e ∙ rw (keeps_stop stops)

    dues_stop : dues p k rows ≡ visit p k ∷ rest_around p.rules p.bytes k.around k.level rows
    dues_stop = due_stop p.rules p.bytes k.around k.level k.here rows (some_left p y.ready) stops.is

    -- at the top the walk ends
    pub stop_top : k.level ≡ 0 → ahead p k t rows tries whole ≡ (t₁, walk_end rows (tries + 1) (whole && clean_stop stop) Going stop type)
    stop_top z =
        let depth : deepest - (deepest - k.level) ≡ deepest - deepest = omega arith in
        let bytes = left p.rules p.bytes k.here in
        let after = going t₁ rows (tries + 1) (whole && clean_stop stop) in
        let told : ends p (visit p k ∷ []) before ≡ end_where (header stops.head) after =
        rw depth
        (ends_stop p.limit p.room deepest k.here.parent k.here.at (length bytes) (head_of p.rules bytes) before after (rw depth at stops.is) (rw depth at stop_made)) in
        ap (λ (vs : List Try). ends p vs before)
        (dues_stop ∙ ap (λ (l : ℕ). visit p k ∷ rest_around p.rules p.bytes k.around l rows) z
        ∙ ap (λ (vs : List Try). visit p k ∷ vs) (around_none p.rules p.bytes k.around rows))
        ∙ told
        ∙ rw (← stops.why, ← stops.bad)

    -- inside a Box the level does
    abbrev pub stopped : Place
    stopped = place k.around k.level (record { at = k.here.till; till = k.here.till; parent = k.here.parent })

    pub stop_turn : 0 < k.level → On stopped rows (whole && clean_stop stop)
    stop_turn z =
        let depth : stops.level ≡ deepest - (deepest - k.level) =
        none_level (deepest - (deepest - k.level)) k.here.parent k.here.at (length (left p.rules p.bytes k.here)) (head_of p.rules (left p.rules p.bytes k.here)) stops.is in
        let deeper : stops.level ≡ deepest - deepest → ⊥ = λ i. omega (arith, y.ready.place.deep) in
        let others : dues p k rows ≡ visit p k ∷ dues p stopped rows =
        dues_stop ∙ ap (λ (vs : List Try). visit p k ∷ vs) (sym (due_shut p.rules p.bytes k.around k.level stopped.here rows (omega arith))) in
        record {
          place = record { deep = y.ready.place.deep; five = y.ready.place.five; inside = y.ready.place.inside; fits = y.ready.place.fits };
          low = omega arith;
          others = others;
          same = goes_on stopped rows (whole && clean_stop stop) others (stands_past (deepest - deepest) (dues p stopped rows) stops.is deeper) stop_made;
        }

  -- ---- a record

  module _ {h d z : ℕ} {b : Bool} (e : f ≡ Row h d z b) where
    seen : Hit p.room rows (visit p k) h d z b
    seen = found_row p.room rows t t₁ h d z b (visit p k) (rw e at y.gave)

    abbrev bytes : List ℕ
    bytes = left p.rules p.bytes k.here

    from : Whence (deepest - (deepest - k.level)) k.here.at (length bytes) (head_of p.rules bytes) seen.row
    from = hit_whence (deepest - (deepest - k.level)) k.here.parent k.here.at (length bytes) (head_of p.rules bytes) seen.row seen.is

    pub row_free : rows < p.room
    row_free = seen.free

    pub row_bounds : (0 < d) × (d ≤ 524280) × (0 < z) × (z ≤ 536)
    row_bounds = rw e at y.bounded

    held : h ≡ min d (k.here.till - k.here.at)
    held = seen.held ∙ from.held ∙ rw (← seen.declared, long p y.ready)

    pub row_held : k.here.at + h ≤ k.here.till
    row_held = let i = held in let j = y.ready.some in omega arith

    -- its bytes
    abbrev own : List ℕ
    own = take seen.row.declared bytes

    own_held : length own ≡ h
    own_held = length-take seen.row.declared bytes ∙ sym from.held ∙ sym seen.held

    -- the tries inside it
    abbrev within : List Try
    within = inner p.rules p.bytes k.level k.here seen.row rows

    row_made : (whole₁ : Bool) → (whole && keeps_whole (visit p k)) ≡ whole₁ → step p.limit p.room (visit p k) before ≡ going t₁ (rows + 1) (tries + 1) whole₁
    row_made whole₁ w = made_as (Row h d z b) e ∙ rw w

    stands_row : (vs : List Try) → stands_in deepest (visit p k ∷ vs) ≡ stands_in deepest vs
    stands_row vs = rw seen.is (stands_hit (deepest - deepest) seen.row vs)

    -- past it, where nothing is inside
    past_on : (whole₁ : Bool) → within ≡ [] → (whole && keeps_whole (visit p k)) ≡ whole₁ → On (place k.around k.level (past k.here d)) (rows + 1) whole₁
    past_on whole₁ i w =
        let others : dues p k rows ≡ visit p k ∷ dues p (place k.around k.level (past k.here d)) (rows + 1) =
        due_past p.rules p.bytes k.around k.level k.here rows (some_left p y.ready) seen.row seen.is from.some i
        ∙ ap (λ (n : ℕ). visit p k ∷ dues p (place k.around k.level (past k.here n)) (rows + 1)) (sym seen.declared) in
        record {
          place = record { deep = y.ready.place.deep; five = y.ready.place.five; inside = y.ready.place.inside; fits = y.ready.place.fits };
          low = omega arith;
          others = others;
          same = goes_on (place k.around k.level (past k.here d)) (rows + 1) whole₁ others (stands_row _) (row_made whole₁ w);
        }

    pub plain_turn : b ≡ false → On (place k.around k.level (past k.here d)) (rows + 1) (whole && leb d h)
    plain_turn c =
        past_on (whole && leb d h) (within_plain (box_tries p.rules (deepest - k.level)) own seen.row rows (sym seen.boxed ∙ c)) (keeps_plain seen whole c)

    -- ---- a Box

    module _ (c : b ≡ true) where
      box_within : within ≡ box_tries p.rules (deepest - k.level) own seen.row.offset seen.row.size rows
      box_within = within_box (box_tries p.rules (deepest - k.level)) own seen.row rows (sym seen.boxed ∙ c)

      box_keeps : (whole && keeps_whole (visit p k)) ≡ box_whole (deepest - k.level) z h (whole && leb d h)
      box_keeps = sym (keeps_box seen whole (deepest - (deepest - k.level)) c from.level)

      -- at the deepest level
      pub deep_turn : deepest ≤ k.level → On (place k.around k.level (past k.here d)) (rows + 1) (whole && leb d h)
      deep_turn g =
          past_on (whole && leb d h)
          (box_within ∙ box_deep p.rules (deepest - k.level) own seen.row.offset seen.row.size rows (omega arith))
          (box_keeps ∙ box_shut (whole && leb d h) (deepest - k.level) z h (omega arith))

      module _ (g : k.level < deepest) where
        below_keeps : (whole && keeps_whole (visit p k)) ≡ (whole && leb d h && leb z h)
        below_keeps = box_keeps ∙ box_header (whole && leb d h) (deepest - k.level) z h (omega arith) (omega arith)

        -- with nothing after its header
        pub short_turn : h ≤ z → On (place k.around k.level (past k.here d)) (rows + 1) (whole && leb d h && leb z h)
        short_turn i =
            past_on (whole && leb d h && leb z h)
            (box_within ∙ box_short p.rules (deepest - k.level) own seen.row.offset seen.row.size rows (omega (arith, seen.size, own_held)))
            below_keeps

        -- with something: the level inside it is entered
        abbrev pub entered : Place
        entered = place (set k.around k.level (past k.here d)) (k.level + 1) (inside k.here h z rows)

        open_within : z < h → within ≡ rest p.rules p.bytes (suc k.level) (inside k.here h z rows) (rows + 1)
        open_within i =
            let fewer : deepest - k.level - 1 ≡ deepest - suc k.level = omega arith in
            box_within
            ∙ box_open p.rules (deepest - k.level) own seen.row.offset seen.row.size rows (omega arith) (omega (arith, seen.size, own_held))
            ∙ rw (← seen.size, ← seen.declared, from.offset, fewer, left_inside p.rules p.bytes k.here h d z rows held)

        pub open_turn : z < h → On entered (rows + 1) (whole && leb d h && leb z h)
        open_turn i =
            let next_level : suc k.level ≡ k.level + 1 = omega arith in
            let others : dues p k rows ≡ visit p k ∷ dues p entered (rows + 1) =
            due_inside p.rules p.bytes k.around k.level k.here rows (some_left p y.ready) seen.row seen.is from.some (inside k.here h z rows)
            (omega (arith, y.ready.place.five)) (open_within i)
            ∙ rw (← seen.declared, next_level) in
            record {
              place = record {
                deep = omega arith;
                five = length-set k.around k.level (past k.here d) ∙ y.ready.place.five;
                inside = within_set k.around (length p.bytes) k.level (past k.here d) y.ready.place.inside y.ready.place.fits;
                fits = omega (arith, row_held, y.ready.place.fits);
              };
              low = omega arith;
              others = others;
              same = goes_on entered (rows + 1) (whole && leb d h && leb z h) others (stands_row _) (row_made (whole && leb d h && leb z h) below_keeps);
            }
