-- The tries in a region of a file are those of the region alone, moved; so are the rows of the joined listing.
-- By induction over the levels and the bytes within a level, then over the regions. Assumes nothing.
use mathlib.Core.Path.{◌≡◌, refl, ap, ap₂, sym, ◌∙◌}
use mathlib.Core.List.{List, [], ◌∷◌, ◌++◌, map, map-append}
use mathlib.Core.Bool.{Bool, true, false, cond}
use Prim.Native.Nat.{ℕ, zero, suc, ◌+◌, ◌-◌, ◌≤◌}
use native.Mathlib.Omega.{arith}
use native.Mathlib.Nat.{add-zero}
use lib.Dec.{eqb, leb}
use lib.ListN.{length, take, drop, length-map}
use borrow.Author.Tests.{ne_eqb}
use Rattle.std.proofs.Common.{Ok, Err}
use Rattle.header_judge.specs.Head.{is_box, head_of, Head}
use Rattle.region_rows.specs.declared.Span.{Span}
use Rattle.region_rows.specs.Rows.{top}
use Rattle.region_try.specs.Tries.{span_of, Try, none, hit, try_of, deepest, rows_found, Inside, within, onward, records, box_tries, region_tries, all_tries}
use Rattle.region_laws.specs.Whole.{all_rows as rows_of}
use Rattle.region_try.proofs.Tries.{rows_append}
use Rattle.cper_regions.specs.Regions.{Region, regions_of}
use Rattle.cper_regions.specs.Listing.{tries_in, joined_tries}
use Rattle.cper_regions_laws.specs.Whole.{all_rows}
use Rattle.cper_regions_laws.specs.Moved.{moved, moved_try, joined_rows}

module _ (o n : ℕ) where
  abbrev pub moved_tries : List Try → List Try
  moved_tries vs = map (moved_try o n) vs

  moved_rows : (vs : List Try) → rows_found (moved_tries vs) ≡ map (moved o n) (rows_found vs)
  unfolding rows_found moved_try
  moved_rows [] = refl
  moved_rows (none l at head ∷ vs) = moved_rows vs
  moved_rows (hit r ∷ vs) = ap (λ (l : List Span). moved o n r ∷ l) (moved_rows vs)

  moved_count : (vs : List Try) → length (rows_found (moved_tries vs)) ≡ length (rows_found vs)
  moved_count vs = ap length (moved_rows vs) ∙ length-map (rows_found vs) (moved o n)

  -- ---- one try

  -- the parent of a moved row
  abbrev parent_moved : ℕ → ℕ → ℕ
  parent_moved level parent = cond (eqb level 0) parent (n + parent)

  try_moved : (level parent offset left : ℕ) (head : Head)
      → try_of level (parent_moved level parent) (o + offset) left head ≡ moved_try o n (try_of level parent offset left head)
  unfolding try_of moved_try
  try_moved level parent offset left (Err why) = refl
  try_moved level parent offset left (Ok s) = by (eqb s.declared 0)
    where
      by : (b : Bool)
          → cond b (none level (o + offset) (Ok s)) (hit (span_of level (parent_moved level parent) (o + offset) left s))
          ≡ moved_try o n (cond b (none level offset (Ok s)) (hit (span_of level parent offset left s)))
      by true = refl
      by false = refl

  -- ---- the tries in a region

  -- the tries inside a Box are moved
  abbrev Moves : Inside → Type 0
  Moves box = (held : List ℕ) (offset size row : ℕ) → box held (o + offset) size (n + row) ≡ moved_tries (box held offset size row)

  module _ (rules : List ℕ) (box : Inside) (moves : Moves box) where
    within_moved : (held : List ℕ) (r : Span) (row : ℕ) → within box held (moved o n r) (n + row) ≡ moved_tries (within box held r row)
    within_moved held r row = by (is_box r.word r.flags)
      where
        by : (b : Bool) → cond b (box held (o + r.offset) r.size (n + row)) [] ≡ moved_tries (cond b (box held r.offset r.size row) [])
        by true = moves held r.offset r.size row
        by false = refl

    onward_moved : (bs : List ℕ) (m : ℕ) (v : Try) (rest rest₁ : ℕ → ℕ → List Try)
        → ((k j : ℕ) → rest₁ k (n + j) ≡ moved_tries (rest k j))
        → onward box bs (n + m) (moved_try o n v) rest₁ ≡ moved_tries (onward box bs m v rest)
    unfolding onward moved_try
    onward_moved bs m (none l at head) rest rest₁ e = refl
    onward_moved bs m (hit r) rest rest₁ e =
        let inside = within box (take r.declared bs) r m in
        let a : within box (take r.declared bs) (moved o n r) (n + m) ≡ moved_tries inside = within_moved (take r.declared bs) r m in
        let c : length (rows_found (moved_tries inside)) ≡ length (rows_found inside) = moved_count inside in
        let d : n + m + 1 + length (rows_found (moved_tries inside)) ≡ n + (m + 1 + length (rows_found inside)) = omega arith in
        ap (λ (l : List Try). hit (moved o n r) ∷ l)
        (ap (λ (l : List Try). l ++ rest₁ (r.declared - 1) (n + m + 1 + length (rows_found l))) a
        ∙ ap (λ (j : ℕ). moved_tries inside ++ rest₁ (r.declared - 1) j) d
        ∙ ap (λ (l : List Try). moved_tries inside ++ l) (e (r.declared - 1) (m + 1 + length (rows_found inside)))
        ∙ sym (map-append (moved_try o n) inside (rest (r.declared - 1) (m + 1 + length (rows_found inside)))))

    records_moved : (levels parent skip : ℕ) (bs : List ℕ) (offset m : ℕ)
        → records rules box levels (parent_moved (deepest - levels) parent) skip bs (o + offset) (n + m) ≡ moved_tries (records rules box levels parent skip bs offset m)
    unfolding records
    records_moved levels parent skip [] offset m = refl
    records_moved levels parent (suc k) (b ∷ bs) offset m =
        let e : o + offset + 1 ≡ o + (offset + 1) = omega arith in
        ap (λ (at : ℕ). records rules box levels (parent_moved (deepest - levels) parent) k bs at (n + m)) e
        ∙ records_moved levels parent k bs (offset + 1) m
    records_moved levels parent zero (b ∷ bs) offset m =
        let e : o + offset + 1 ≡ o + (offset + 1) = omega arith in
        ap (λ (v : Try). onward box (b ∷ bs) (n + m) v (λ k j. records rules box levels (parent_moved (deepest - levels) parent) k bs (o + offset + 1) j))
        (try_moved (deepest - levels) parent offset (length (b ∷ bs)) (head_of rules (b ∷ bs)))
        ∙ onward_moved (b ∷ bs) m (try_of (deepest - levels) parent offset (length (b ∷ bs)) (head_of rules (b ∷ bs)))
        (λ k j. records rules box levels parent k bs (offset + 1) j)
        (λ k j. records rules box levels (parent_moved (deepest - levels) parent) k bs (o + offset + 1) j)
        (λ k j.
        ap (λ (at : ℕ). records rules box levels (parent_moved (deepest - levels) parent) k bs at (n + j)) e
        ∙ records_moved levels parent k bs (offset + 1) j)

  module _ (rules : List ℕ) where
    box_moved : (levels : ℕ) → levels ≤ deepest → Moves (box_tries rules levels)
    unfolding box_tries
    box_moved zero h held offset size row = refl
    box_moved (suc l) h held offset size row = by (box_moved l (omega arith)) (leb size (length held))
      where
        by : Moves (box_tries rules l) → (b : Bool)
            → cond b (records rules (box_tries rules l) l (n + row) 0 (drop size held) (o + offset + size) (n + row + 1)) []
            ≡ moved_tries (cond b (records rules (box_tries rules l) l row 0 (drop size held) (offset + size) (row + 1)) [])
        by moves false = refl
        by moves true =
            let p : parent_moved (deepest - l) row ≡ n + row = rw (ne_eqb (deepest - l) 0 (λ z. omega arith)) in
            let e : o + offset + size ≡ o + (offset + size) = omega arith in
            let f : n + row + 1 ≡ n + (row + 1) = omega arith in
            rw (e, f, ← p) (records_moved rules (box_tries rules l) moves l row 0 (drop size held) (offset + size) (row + 1))

    -- the tries of a region at an offset, before which so many rows stand
    pub region_moved : (bytes : List ℕ) → region_tries rules deepest bytes o top n ≡ map (moved_try o n) (all_tries rules bytes)
    unfolding region_tries all_tries
    region_moved bytes =
        ap₂ (λ (at m : ℕ). records rules (box_tries rules deepest) deepest top 0 bytes at m) (sym (add-zero o)) (sym (add-zero n))
        ∙ records_moved rules (box_tries rules deepest) (box_moved deepest (omega arith)) deepest top 0 bytes 0 0

-- ---- the rows of the joined listing

module _ (rules : List ℕ) where
  rows_in_lem : (g : Region) (n : ℕ) → rows_found (tries_in rules g n) ≡ map (moved g.offset n) (rows_of rules g.bytes)
  rows_in_lem g n = ap rows_found (region_moved g.offset n rules g.bytes) ∙ moved_rows g.offset n (all_tries rules g.bytes)

  -- no more and no fewer than by itself
  pub region_row_count : (g : Region) (n : ℕ) → length (rows_found (tries_in rules g n)) ≡ length (rows_of rules g.bytes)
  region_row_count g n = ap length (rows_in_lem g n) ∙ length-map (rows_of rules g.bytes) (moved g.offset n)

  joined : (gs : List Region) (n : ℕ) → rows_found (joined_tries rules gs n) ≡ joined_rows rules gs n
  unfolding joined_tries joined_rows rows_found
  joined [] n = refl
  joined (g ∷ gs) n =
      rows_append (tries_in rules g n) (joined_tries rules gs (n + length (rows_found (tries_in rules g n))))
      ∙ ap₂ (λ (a b : List Span). a ++ b) (rows_in_lem g n) (joined gs (n + length (rows_found (tries_in rules g n))))
      ∙ rw (region_row_count g n)

  -- each region's own rows, moved, one region after the other
  pub rows_joined : (cper id : List ℕ) → all_rows rules cper id ≡ joined_rows rules (regions_of cper id) 0
  rows_joined cper id = joined (regions_of cper id) 0
