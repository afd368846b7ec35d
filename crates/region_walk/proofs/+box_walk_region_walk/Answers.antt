-- The region walk and the Box walk run the tries of a region and those inside a Box.
-- Each end and each turn of the loop is the invariant with the lemma of what the try finds. Assumes nothing.
use Rattle.std.proofs.Common.{◌≡◌, ℕ, ◌+◌, ◌-◌, ◌≤◌, ◌<◌, length, sym, refl, ap, ◌∙◌, inl, inr, arith, List, leb}
use mathlib.Core.Bool.{◌&&◌}
use Rattle.std.proofs.Common.{rules}
use Rattle.basics.proofs.Parts.{tail_part}
use Rattle.rules.specs.Rules.{flags_of}
use Rattle.header_judge.proofs.Heads.{remembered}
use Rattle.header_judge.specs.Steps.{Known}
use Rattle.region_try.proofs.Tries.{box_deep, box_short}
use Rattle.region_try.proofs.Runs.{run_empty}
use Rattle.region_try.proofs.Whole.{box_shut, box_header, box_opens}
use Rattle.region_try.specs.declared.Found.{Found}
use Rattle.region_try.specs.declared.Found.TheVariants.{Row}
use Rattle.region_walk.specs.Steps.{going}
use Rattle.region_walk.proofs.Turn.{held_fits, child_counts, Place, placed, rest, rest_start, rest_same, rest_end, rest_spent, Tried, tried_at, stop_turn, full_turn, row_free, row_held, plain_turn, box_turn, box_cut}
use Rattle.region_walk.proofs.+box_walk_region_walk.Goals.{region_walk-Joined-word-last, region_walk-In-Row, region_walk-then-word-last, region_walk-else-word-last, region_walk-then-boxed+else-ne, region_walk-else-boxed}
use Rattle.region_walk.proofs.+box_walk_region_walk.Goals as goal

-- ---- the Box walk

pub box_walk-returns-then-levels-eq0 : goal.box_walk-returns-then-levels-eq0
box_walk-returns-then-levels-eq0 t c =
    let a = c.args in
    rw (box_shut a.whole a.levels a.size (length a.held.now) (omega arith))
    (run_empty a.bounds.now.limit a.bounds.now.room _ (going a.spans.now (a.row + 1) a.tries a.whole)
    (box_deep a.bounds.now.rules.now a.levels a.held.now a.base a.size a.row (omega arith)))

pub box_walk-returns-then-held-size : goal.box_walk-returns-then-held-size
box_walk-returns-then-held-size t c =
    let a = c.args in
    let n = length a.held.now in
    rw (box_header a.whole a.levels a.size n (omega arith) c.requires.0.deep)
    (run_empty a.bounds.now.limit a.bounds.now.room _ (going a.spans.now (a.row + 1) a.tries (a.whole && leb a.size n))
    (box_short a.bounds.now.rules.now a.levels a.held.now a.base a.size a.row (omega arith)))

pub box_walk-returns : goal.box_walk-returns
box_walk-returns t c =
    let a = c.args in
    rw (c.counts.ensures, box_opens a.whole a.levels a.size (length a.held.now) (omega arith) c.requires.0.deep (omega arith))
    (child_counts a.bounds.now.rules.now a.bounds.now.limit a.bounds.now.room a.levels a.held.now a.base a.size a.row
    (going a.spans.now (a.row + 1) a.tries a.whole) (omega arith) (omega arith)
    (rw (tail_part a.held.now a.size) at c.region_walk-child.ensures))

-- ---- the region walk

pub region_walk-loop-at-init : goal.region_walk-loop-at-init
region_walk-loop-at-init t c =
    let a = c.args in
    let p = placed a.bytes.now a.bounds.now a.base a.levels a.parent in
    record { flags = λ n. absurd (n refl); ends = rest_start p a.spans.now a.rows a.tries a.whole }

pub region_walk-returns-then-bounds-tries : goal.region_walk-returns-then-bounds-tries
region_walk-returns-then-bounds-tries t c =
    let a = c.args in
    let l = c.loop-at in
    let p = placed a.bytes.now a.bounds.now a.base a.levels a.parent in
    rw c.walk_end.ensures (sym (l.invariant.ends ∙ rest_spent p l.at l.spans l.rows l.tries l.whole (omega arith) (omega arith)))

-- the flags of a turn's word
module _ (t : ℕ) (c : region_walk-Joined-word-last t) where
  abbrev table : List ℕ
  table = c.args.bounds.now.rules.now

  -- they are remembered with the word
  memory : (c.if-word-last.last ≡ c.word_of-word.result) × Known table c.word_of-word.result c.if-word-last.known
  memory =
      remembered table c.word_of-word.result c.loop-at.last c.loop-at.known c.if-word-last.last c.if-word-last.known c.loop-at.invariant.flags
      (elim c.if-word-last.branch [
        | region_walk-then-word-last w ↦ inl (w.last-is, w.known-is ∙ w.flags-known.ensures)
        | region_walk-else-word-last w ↦ inr (w.if-word-last.false, w.last-is, w.known-is)
      ])

  known : Known table c.word_of-word.result c.if-word-last.known
  known = memory.1

  kept : Known table c.if-word-last.last c.if-word-last.known
  kept n = memory.1 (λ e. n (memory.0 ∙ e)) ∙ ap (flags_of table) (sym memory.0)

-- the try of a turn that finds a record
module _ (t : ℕ) (c : region_walk-In-Row t) (flags : Known c.args.bounds.now.rules.now c.word_of-word.result c.if-word-last.known) where
  abbrev place : Place
  place = placed c.args.bytes.now c.args.bounds.now c.args.base c.args.levels c.args.parent

  abbrev record_found : Found
  record_found = Row c.in-Row.held c.in-Row.declared c.in-Row.size c.in-Row.boxed

  turn : Tried place c.loop-at.at c.loop-at.spans c.try_at-tried.new.spans c.loop-at.rows c.loop-at.tries record_found
  turn =
      tried_at place c.loop-at.at c.word_of-word.result c.if-word-last.known c.requires.deep c.loop-at-test.true c.if-bounds-tries.false
      c.word_of-word.ensures flags c.in-Row.ensures.result_after

  free : c.loop-at.rows < place.room
  free = row_free turn c.loop-at.whole refl

  held : c.loop-at.at + c.in-Row.held ≤ length c.args.bytes.now
  held = row_held turn c.loop-at.whole refl

pub region_walk-returns-in-Nothing : goal.region_walk-returns-in-Nothing
region_walk-returns-in-Nothing t c =
    let a = c.args in
    let l = c.loop-at in
    let p = placed a.bytes.now a.bounds.now a.base a.levels a.parent in
    let flags = known t (goal.at.region_walk-returns-in-Nothing t c).Joined-word-last in
    let turn = tried_at p l.at c.word_of-word.result c.if-word-last.known c.requires.deep c.loop-at-test.true c.if-bounds-tries.false c.word_of-word.ensures flags c.in-Nothing.ensures.result_after in
    rw (c.walk_end-in-Nothing.ensures, c.clean_stop-clean.ensures) (sym (l.invariant.ends ∙ stop_turn turn l.whole refl))

pub region_walk-returns-in-NoRoom : goal.region_walk-returns-in-NoRoom
region_walk-returns-in-NoRoom t c =
    let a = c.args in
    let l = c.loop-at in
    let p = placed a.bytes.now a.bounds.now a.base a.levels a.parent in
    let flags = known t (goal.at.region_walk-returns-in-NoRoom t c).Joined-word-last in
    let turn = tried_at p l.at c.word_of-word.result c.if-word-last.known c.requires.deep c.loop-at-test.true c.if-bounds-tries.false c.word_of-word.ensures flags c.in-NoRoom.ensures.result_after in
    rw c.walk_end-in-NoRoom.ensures (sym (l.invariant.ends ∙ full_turn turn l.whole refl))

pub region_walk-overflow_add-rows : goal.region_walk-overflow_add-rows
region_walk-overflow_add-rows t c = let a = goal.at.region_walk-overflow_add-rows t c in omega (arith, free t a.In-Row (known t a.Joined-word-last), c.args.bounds.now.fits)

pub region_walk-overflow_add-end : goal.region_walk-overflow_add-end
region_walk-overflow_add-end t c = let a = goal.at.region_walk-overflow_add-end t c in omega (arith, held t a.In-Row (known t a.Joined-word-last), c.requires.offsets)

pub region_walk-slice_bounds-box_walk-end : goal.region_walk-slice_bounds-box_walk-end
region_walk-slice_bounds-box_walk-end t c = let a = goal.at.region_walk-slice_bounds-box_walk-end t c in held t a.In-Row (known t a.Joined-word-last)

pub region_walk-box_walk-inner-requires : goal.region_walk-box_walk-inner-requires
region_walk-box_walk-inner-requires t c =
    let w = c.requires in
    let a = goal.at.region_walk-box_walk-inner-requires t c in
    let inside : c.loop-at.at + c.in-Row.held ≤ length c.args.bytes.now = held t a.In-Row (known t a.Joined-word-last) in
    let offsets = held_fits c.args.bytes.now c.args.base c.loop-at.at (c.loop-at.at + c.in-Row.held - c.loop-at.at) w.offsets (omega arith) in
    (omega arith, (record { offsets = offsets; deep = w.deep; rows = omega (arith, w.rows) }, free t a.In-Row (known t a.Joined-word-last)))

pub region_walk-returns-then-ne : goal.region_walk-returns-then-ne
region_walk-returns-then-ne t c =
    let l = c.loop-at in
    let a = goal.at.region_walk-returns-then-ne t c in
    rw c.untold.ensures
    (sym (l.invariant.ends ∙ box_cut (turn t a.In-Row (known t a.Joined-word-last)) l.whole refl c.if-boxed.true c.box_walk-inner.ensures (λ e. search rules)))

pub region_walk-loop-at-preserved : goal.region_walk-loop-at-preserved
region_walk-loop-at-preserved t c =
    let a = goal.at.region_walk-loop-at-preserved t c in
    let turn = turn t a.In-Row (known t a.Joined-word-last) in
    let l = c.loop-at in
    let p = placed c.args.bytes.now c.args.bounds.now c.args.base c.args.levels c.args.parent in
    let next = l.at + c.in-Row.declared in
    let on : rest p l.at l.spans l.rows l.tries l.whole ≡ rest p next c.if-boxed.spans c.if-boxed.rows c.if-boxed.tries c.if-boxed.whole =
    elim c.if-boxed.branch [
      | region_walk-then-boxed+else-ne w ↦ box_turn turn l.whole refl w.if-boxed.true w.box_walk-inner.ensures (search rules) ∙ rest_same p next w.spans-is w.rows-is w.tries-is w.whole-is
      | region_walk-else-boxed w ↦ plain_turn turn l.whole refl w.if-boxed.false ∙ rest_same p next w.spans-is w.rows-is w.tries-is w.whole-is
    ] in
    record { flags = kept t a.Joined-word-last; ends = l.invariant.ends ∙ on }

pub region_walk-returns : goal.region_walk-returns
region_walk-returns t c =
    let a = c.args in
    let l = c.loop-at in
    let p = placed a.bytes.now a.bounds.now a.base a.levels a.parent in
    rw c.walk_end-2.ensures (sym (l.invariant.ends ∙ rest_end p l.at l.spans l.rows l.tries l.whole (omega arith)))
