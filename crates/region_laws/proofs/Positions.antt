-- The tries are made at the positions that the nested walk visits, in that order.
-- By induction over the levels, and over the bytes within a level. Assumes nothing.
use mathlib.Core.Path.{◌≡◌, refl, ap, ap₂, sym, ◌∙◌}
use mathlib.Core.List.{List, [], ◌∷◌, ◌++◌, map, map-append}
use mathlib.Core.Bool.{Bool, true, false, cond}
use Prim.Native.Nat.{ℕ, zero, suc, ◌+◌, ◌-◌}
use lib.Dec.{eqb, leb}
use lib.ListN.{length, take, drop, length-map}
use Rattle.std.proofs.Common.{Ok, Err}
use Rattle.header_judge.specs.Head.{is_box, head_of, Head}
use Rattle.region_rows.specs.declared.Span.{Span}
use Rattle.region_rows.specs.Rows.{top}
use Rattle.region_try.specs.Tries.{span_of, Try, none, hit, try_of, deepest, rows_found, Inside, within, onward, records, box_tries, region_tries, all_tries}
use Rattle.region_laws.specs.Nested.{by_head, following, Gather, in_region, in_box, gathered}
use Rattle.region_laws.specs.Positions.{offset_of, visited_from, visited}

abbrev offsets : List Try → List ℕ
offsets vs = map offset_of vs

module _ (rules : List ℕ) where
  -- the positions in a region, and inside a Box
  abbrev positions_in : Gather ℕ → ℕ → List ℕ → ℕ → List ℕ
  positions_in = in_region rules (λ (region : List ℕ). []) (λ (at : ℕ). at ∷ [])

  abbrev positions_of : ℕ → Gather ℕ
  positions_of = in_box rules (λ (region : List ℕ). []) (λ (at : ℕ). at ∷ [])

  -- the tries inside a Box are made at its positions
  abbrev Agree : Inside → Gather ℕ → Type 0
  Agree box at = (held : List ℕ) (offset size row : ℕ) → offsets (box held offset size row) ≡ at offset held size

  module _ (box : Inside) (inside : Gather ℕ) (agree : Agree box inside) where
    within_at : (boxed : Bool) (held : List ℕ) (offset size row : ℕ) → offsets (cond boxed (box held offset size row) []) ≡ cond boxed (inside offset held size) []
    within_at true held offset size row = agree held offset size row
    within_at false held offset size row = refl

    onward_at : (level parent offset : ℕ) (bs : List ℕ) (n : ℕ) (head : Head) (rest : ℕ → ℕ → List Try) (after : ℕ → List ℕ)
        → ((k m : ℕ) → offsets (rest k m) ≡ after k)
        → offsets (onward box bs n (try_of level parent offset (length bs) head) rest) ≡ offset ∷ following (inside offset) bs head after
    unfolding onward try_of by_head
    onward_at level parent offset bs n (Err why) rest after e = refl
    onward_at level parent offset bs n (Ok s) rest after e = by (eqb s.declared 0)
      where
        row : Span
        row = span_of level parent offset (length bs) s

        tries : List Try
        tries = within box (take s.declared bs) row n

        by : (b : Bool)
            → offsets (onward box bs n (cond b (none level offset (Ok s)) (hit row)) rest)
            ≡ offset ∷ cond b [] (cond (is_box s.word s.flags) (inside offset (take s.declared bs) s.size) [] ++ after (s.declared - 1))
        by true = refl
        by false =
            ap (λ (l : List ℕ). offset ∷ l)
            (map-append offset_of tries (rest (s.declared - 1) (n + 1 + length (rows_found tries)))
            ∙ ap₂ (λ (a b : List ℕ). a ++ b) (within_at (is_box s.word s.flags) (take s.declared bs) offset s.size n) (e (s.declared - 1) (n + 1 + length (rows_found tries))))

    records_at : (levels parent skip : ℕ) (bs : List ℕ) (offset n : ℕ) → offsets (records rules box levels parent skip bs offset n) ≡ positions_in inside skip bs offset
    unfolding records in_region
    records_at levels parent skip [] offset n = refl
    records_at levels parent (suc k) (b ∷ bs) offset n = records_at levels parent k bs (offset + 1) n
    records_at levels parent zero (b ∷ bs) offset n =
        onward_at (deepest - levels) parent offset (b ∷ bs) n (head_of rules (b ∷ bs))
        (λ k m. records rules box levels parent k bs (offset + 1) m) (λ k. positions_in inside k bs (offset + 1))
        (λ k m. records_at levels parent k bs (offset + 1) m)

  box_at : (levels : ℕ) → Agree (box_tries rules levels) (positions_of levels)
  unfolding box_tries in_box
  box_at zero held offset size row = refl
  box_at (suc l) held offset size row = by (box_at l) (leb size (length held))
    where
      by : Agree (box_tries rules l) (positions_of l) → (b : Bool)
          → offsets (cond b (records rules (box_tries rules l) l row 0 (drop size held) (offset + size) (row + 1)) [])
          ≡ cond b (positions_in (positions_of l) 0 (drop size held) (offset + size)) []
      by agree true = records_at (box_tries rules l) (positions_of l) agree l row 0 (drop size held) (offset + size) (row + 1)
      by agree false = refl

  -- in a region that starts at an offset, and before which so many rows stand
  pub region_tried_at : (bytes : List ℕ) (at n : ℕ) → map offset_of (region_tries rules deepest bytes at top n) ≡ visited_from rules at bytes
  unfolding region_tries gathered
  region_tried_at bytes at n = records_at (box_tries rules deepest) (positions_of deepest) (box_at deepest) deepest top 0 bytes at n

  pub region_tries_visited : (bytes : List ℕ) (at n : ℕ) → length (region_tries rules deepest bytes at top n) ≡ length (visited_from rules at bytes)
  region_tries_visited bytes at n = sym (length-map (region_tries rules deepest bytes at top n) offset_of) ∙ ap length (region_tried_at bytes at n)

  -- each try is made at the next position that the walk visits
  pub tried_at_visited : (bytes : List ℕ) → map offset_of (all_tries rules bytes) ≡ visited rules bytes
  unfolding all_tries
  tried_at_visited bytes = region_tried_at bytes 0 0

  pub tries_visited : (bytes : List ℕ) → length (all_tries rules bytes) ≡ length (visited rules bytes)
  unfolding all_tries
  tries_visited bytes = region_tries_visited bytes 0 0
