-- `flat_walk` runs the tries of the whole input.
-- Each end and each turn of the loop is the invariant with the lemma of what the try finds. Assumes nothing.
use Rattle.std.proofs.Common.{◌+◌, ◌-◌, ◌<◌, ◌≤◌, length, sym, refl, ◌∙◌, arith}
use Rattle.region_flat.specs.Steps.{past}
use Rattle.region_try.specs.declared.Found.TheVariants.{Nothing, Row}
use Rattle.region_flat.proofs.Turn.{Whole, Place, place, walked, Ready, within_none, ahead_start, ahead_end, ahead_back, falls_back, placed_back, ahead_spent, Tried, tried_at, full_turn, stop_top, stop_turn, On, falls_on, row_free, row_held, plain_turn, deep_turn, short_turn, open_turn}
use Rattle.region_flat.proofs.walk.flat_walk.Goals.{In-Nothing, In-Row, After-past-here, then-boxed+then-level+else-size-held, else-boxed, else-boxed-via-then-boxed+else-level, else-boxed-via-else-boxed}
use Rattle.region_flat.proofs.walk.flat_walk.Goals as goal

pub loop-here-init : goal.loop-here-init
loop-here-init c =
    let a = c.args in
    let n = length a.bytes.now in
    record {
      knows = (λ n. absurd (n c.none-seen.ensures.0), λ n. absurd (n c.none-seen.ensures.1));
      placed = record {
        deep = omega arith;
        five = refl;
        inside = within_none n 5;
        fits = omega arith;
      };
      ends = ahead_start (walked a.bytes.now a.rules.now a.limit a.room) _ a.spans.now;
    }

-- ---- a level that is at its end

pub returns-then-level-eq0 : goal.returns-then-level-eq0
returns-then-level-eq0 c =
    let a = c.args in
    let l = c.loop-here in
    let p = walked a.bytes.now a.rules.now a.limit a.room in
    let k = place l.around l.level l.here in
    rw c.walk_end.ensures (sym (l.invariant.ends ∙ ahead_end p k (omega arith) (omega arith) l.spans l.rows l.tries l.whole))

pub loop-here-smaller-then-here : goal.loop-here-smaller-then-here
loop-here-smaller-then-here c =
    let a = c.args in
    let l = c.loop-here in
    falls_back (walked a.bytes.now a.rules.now a.limit a.room) (place l.around l.level l.here) (omega arith) (l.level - 1) (omega arith) l.rows

pub loop-here-preserved-then-here : goal.loop-here-preserved-then-here
loop-here-preserved-then-here c =
    let a = c.args in
    let l = c.loop-here in
    let p = walked a.bytes.now a.rules.now a.limit a.room in
    let k = place l.around l.level l.here in
    record {
      knows = l.invariant.knows;
      placed = placed_back p k (omega arith) (l.level - 1) (omega arith) l.invariant.placed;
      ends = l.invariant.ends ∙ ahead_back p k (omega arith) (l.level - 1) (omega arith) l.spans l.rows l.tries l.whole;
    }

-- ---- the try of a turn

pub returns-then-limit-tries : goal.returns-then-limit-tries
returns-then-limit-tries c =
    let a = c.args in
    let l = c.loop-here in
    let p = walked a.bytes.now a.rules.now a.limit a.room in
    let ready : Ready p (place l.around l.level l.here) = record { some = c.if-here.false; place = l.invariant.placed } in
    rw c.walk_end-then-limit-tries.ensures (sym (l.invariant.ends ∙ ahead_spent p ready l.spans l.rows l.tries l.whole (omega arith)))

-- ---- no record

module _ (c : In-Nothing) where
  abbrev stop_walk : Whole
  stop_walk = walked c.args.bytes.now c.args.rules.now c.args.limit c.args.room

  abbrev stop_place : Place
  stop_place = place c.loop-here.around c.loop-here.level c.loop-here.here

  stop_tried : Tried stop_walk stop_place c.loop-here.spans c.try_at-tried.new.spans c.loop-here.rows c.loop-here.tries (Nothing c.in-Nothing.stop c.in-Nothing.bad_type)
  stop_tried =
      tried_at stop_walk c.recall-seen.result.word c.recall-seen.result.flags (record { some = c.if-here.false; place = c.loop-here.invariant.placed }) c.if-limit-tries.false
      (c.recall-seen.ensures.1 ∙ c.word_of.ensures) c.recall-seen.ensures.0.0 c.in-Nothing.ensures.result_after c.in-Nothing.ensures.row_bounds

pub loop-here-smaller-in-Nothing : goal.loop-here-smaller-in-Nothing
loop-here-smaller-in-Nothing c =
    let y = stop_tried (goal.at.loop-here-smaller-in-Nothing c).In-Nothing in
    falls_on y c.loop-here.whole (stop_turn y c.loop-here.whole refl (omega arith))

pub loop-here-preserved-in-Nothing : goal.loop-here-preserved-in-Nothing
loop-here-preserved-in-Nothing c =
    let y = stop_tried (goal.at.loop-here-preserved-in-Nothing c).In-Nothing in
    let n = stop_turn y c.loop-here.whole refl (omega arith) in
    rw c.clean_stop-whole.ensures (record { knows = c.recall-seen.ensures.0; placed = n.place; ends = c.loop-here.invariant.ends ∙ n.same })

pub returns-then-level-eq0-2 : goal.returns-then-level-eq0-2
returns-then-level-eq0-2 c =
    let y = stop_tried (goal.at.returns-then-level-eq0-2 c).In-Nothing in
    rw (c.walk_end-then-level-eq0-2.ensures, c.clean_stop-whole.ensures) (sym (c.loop-here.invariant.ends ∙ stop_top y c.loop-here.whole refl (omega arith)))

pub returns-in-NoRoom : goal.returns-in-NoRoom
returns-in-NoRoom c =
    let a = c.args in
    let l = c.loop-here in
    let p = walked a.bytes.now a.rules.now a.limit a.room in
    let ready : Ready p (place l.around l.level l.here) = record { some = c.if-here.false; place = l.invariant.placed } in
    let y =
    tried_at p c.recall-seen.result.word c.recall-seen.result.flags ready c.if-limit-tries.false
    (c.recall-seen.ensures.1 ∙ c.word_of.ensures) c.recall-seen.ensures.0.0 c.in-NoRoom.ensures.result_after c.in-NoRoom.ensures.row_bounds in
    rw c.walk_end-in-NoRoom.ensures (sym (l.invariant.ends ∙ full_turn y l.whole refl))

-- ---- a record

module _ (c : In-Row) where
  abbrev row_walk : Whole
  row_walk = walked c.args.bytes.now c.args.rules.now c.args.limit c.args.room

  abbrev row_place : Place
  row_place = place c.loop-here.around c.loop-here.level c.loop-here.here

  row_tried : Tried row_walk row_place c.loop-here.spans c.try_at-tried.new.spans c.loop-here.rows c.loop-here.tries (Row c.in-Row.held c.in-Row.declared c.in-Row.size c.in-Row.boxed)
  row_tried =
      tried_at row_walk c.recall-seen.result.word c.recall-seen.result.flags (record { some = c.if-here.false; place = c.loop-here.invariant.placed }) c.if-limit-tries.false
      (c.recall-seen.ensures.1 ∙ c.word_of.ensures) c.recall-seen.ensures.0.0 c.in-Row.ensures.result_after c.in-Row.ensures.row_bounds

  free : c.loop-here.rows < c.args.room
  free = row_free row_tried c.loop-here.whole refl

  held : c.loop-here.here.at + c.in-Row.held ≤ c.loop-here.here.till
  held = row_held row_tried c.loop-here.whole refl

pub overflow_add-rows : goal.overflow_add-rows
overflow_add-rows c = omega (arith, free (goal.at.overflow_add-rows c).In-Row)

pub inside-here-requires : goal.inside-here-requires
inside-here-requires c = omega (arith, held (goal.at.inside-here-requires c).In-Row, c.loop-here.invariant.placed.fits)

-- a level is entered

pub loop-here-smaller-then-size-held : goal.loop-here-smaller-then-size-held
loop-here-smaller-then-size-held c =
    let y = row_tried (goal.at.loop-here-smaller-then-size-held c).In-Row in
    rw (c.past.ensures, c.inside-here.ensures) (falls_on y c.loop-here.whole (open_turn y c.loop-here.whole refl c.if-boxed.true c.if-level.true c.if-size-held.true))

pub loop-here-preserved-then-size-held : goal.loop-here-preserved-then-size-held
loop-here-preserved-then-size-held c =
    let y = row_tried (goal.at.loop-here-preserved-then-size-held c).In-Row in
    let n = open_turn y c.loop-here.whole refl c.if-boxed.true c.if-level.true c.if-size-held.true in
    rw (c.past.ensures, c.inside-here.ensures) (record { knows = c.recall-seen.ensures.0; placed = n.place; ends = c.loop-here.invariant.ends ∙ n.same })

-- none is
module _ (c : After-past-here)
    (y : Tried (walked c.args.bytes.now c.args.rules.now c.args.limit c.args.room) (place c.loop-here.around c.loop-here.level c.loop-here.here)
    c.loop-here.spans c.try_at-tried.new.spans c.loop-here.rows c.loop-here.tries (Row c.in-Row.held c.in-Row.declared c.in-Row.size c.in-Row.boxed)) where
  abbrev further : Place
  further = place c.loop-here.around c.loop-here.level (past c.loop-here.here c.in-Row.declared)

  passed : On y c.loop-here.whole further (c.loop-here.rows + 1) c.if-boxed.whole
  passed =
      elim c.if-boxed.branch [
        | then-boxed+then-level+else-size-held w ↦ rw w.whole-is (short_turn y c.loop-here.whole refl w.if-boxed.true w.if-level.true w.if-size-held.false)
        | else-boxed w ↦
            elim w.else-boxed.branch [
              | else-boxed-via-then-boxed+else-level v ↦ rw w.whole-is (deep_turn y c.loop-here.whole refl v.if-boxed.true v.if-level.false)
              | else-boxed-via-else-boxed v ↦ rw w.whole-is (plain_turn y c.loop-here.whole refl v.if-boxed.false)
            ]
      ]

pub loop-here-smaller : goal.loop-here-smaller
loop-here-smaller c =
    let y = row_tried (goal.at.loop-here-smaller c).In-Row in
    rw c.past-here.ensures (falls_on y c.loop-here.whole (passed c y))

pub loop-here-preserved : goal.loop-here-preserved
loop-here-preserved c =
    let n = passed c (row_tried (goal.at.loop-here-preserved c).In-Row) in
    rw c.past-here.ensures (record { knows = c.recall-seen.ensures.0; placed = n.place; ends = c.loop-here.invariant.ends ∙ n.same })
