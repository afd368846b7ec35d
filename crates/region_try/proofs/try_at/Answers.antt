-- `try_at` gives what the try of the header finds, and writes its row where there is room.
-- Each return is one case of the header by its parts. Assumes nothing.
use mathlib.Core.Path.{◌≡◌, sym, ◌∙◌}
use Rattle.header_judge.specs.Head.{declared_of}
use Rattle.header_judge.proofs.Sizes.{size_found, complete}
use Rattle.region_try.proofs.Heads.{ended_stops, none_stops, empty_stops, record_hit}
use Rattle.region_try.proofs.Finds.{finds_nothing, finds_no_room, finds_row}
use Rattle.region_try.proofs.try_at.Goals as goal

pub returns-then-word-eq-NO_WORD-clause-result_after : goal.returns-then-word-eq-NO_WORD-clause-result_after
returns-then-word-eq-NO_WORD-clause-result_after c =
    let a = c.args in
    rw (c.into.ensures, c.ending_of.ensures)
    (finds_nothing a.room a.rows a.spans.now (ended_stops a.level a.parent a.offset a.bytes.now a.word a.flags c.if-word-eq-NO_WORD.true))

pub returns-in-Err-clause-result_after : goal.returns-in-Err-clause-result_after
returns-in-Err-clause-result_after c =
    let a = c.args in
    let none = none_stops a.level a.parent a.offset a.bytes.now a.word a.flags c.if-word-eq-NO_WORD.false (sym c.in-Err.ensures.value) in
    rw c.into-in-Err.ensures (finds_nothing a.room a.rows a.spans.now none)

pub returns-then-declared-eq0-clause-result_after : goal.returns-then-declared-eq0-clause-result_after
returns-then-declared-eq0-clause-result_after c =
    let a = c.args in
    let there = complete a.bytes.now a.word a.flags (sym c.in-Ok.ensures.value) in
    let none = sym c.declared_of-declared.ensures.0 ∙ c.if-declared-eq0.true in
    finds_nothing a.room a.rows a.spans.now (empty_stops a.level a.parent a.offset a.bytes.now a.word a.flags c.if-word-eq-NO_WORD.false there none)

pub returns-then-room-rows-clause-result_after : goal.returns-then-room-rows-clause-result_after
returns-then-room-rows-clause-result_after c =
    let a = c.args in
    let there = complete a.bytes.now a.word a.flags (sym c.in-Ok.ensures.value) in
    let some : declared_of a.bytes.now a.flags ≡ 0 → ⊥ = λ e. c.if-declared-eq0.false (c.declared_of-declared.ensures.0 ∙ e) in
    finds_no_room a.room a.rows a.spans.now (record_hit a.level a.parent a.offset a.bytes.now a.word a.flags c.if-word-eq-NO_WORD.false there some) c.if-room-rows.true

pub returns-clause-result_after : goal.returns-clause-result_after
returns-clause-result_after c =
    let a = c.args in
    let size = sym c.in-Ok.ensures.value in
    let there = complete a.bytes.now a.word a.flags size in
    let some : declared_of a.bytes.now a.flags ≡ 0 → ⊥ = λ e. c.if-declared-eq0.false (c.declared_of-declared.ensures.0 ∙ e) in
    rw (c.put.ensures, c.is_box.ensures, c.span_of-span.ensures, c.summary_of-summary.ensures, (size_found a.bytes.now a.word a.flags size).is, c.declared_of-declared.ensures.0)
    (finds_row a.room a.rows a.spans.now (record_hit a.level a.parent a.offset a.bytes.now a.word a.flags c.if-word-eq-NO_WORD.false there some) c.if-room-rows.false)
