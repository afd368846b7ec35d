-- `list_cper` gives the listing of a CPER, whose rows fit the table.
-- The walk of all regions is that of the definition. Assumes nothing.
use mathlib.Core.Path.{◌≡◌, sym, ◌∙◌}
use mathlib.Core.Bool.{true, false}
use native.Mathlib.Omega.{arith}
use Rattle.rules.specs.Rules.{valid_of}
use Rattle.region_walk.proofs.Start.{start_sound}
use Rattle.cper_header.specs.Record.{is_cper}
use Rattle.cper_sections.proofs.Checked.{header_whole}
use Rattle.cper_regions.specs.Regions.{regions_of}
use Rattle.cper_regions.proofs.Shows.{listed_long, listed_rules, listed_header, listed_run, with_fit}
use Rattle.cper_regions.proofs.list_cper.Goals as goal

-- ---- refusals

pub returns-then-cper-gt-MOST_BYTES-clause-result_after : goal.returns-then-cper-gt-MOST_BYTES-clause-result_after
returns-then-cper-gt-MOST_BYTES-clause-result_after c =
    let a = c.args in
    rw c.refused.ensures (listed_long a.rules.now a.cper.now a.record_id.now a.limit a.spans.now (omega arith))

pub returns-then-not-valid-clause-result_after : goal.returns-then-not-valid-clause-result_after
returns-then-not-valid-clause-result_after c =
    let a = c.args in
    let bad : valid_of a.rules.now ≡ false = sym c.valid.ensures ∙ c.if-not-valid.true in
    rw c.refused-then-not-valid.ensures (listed_rules a.rules.now a.cper.now a.record_id.now a.limit a.spans.now (omega arith) bad)

pub returns-then-not-is_cper-clause-result_after : goal.returns-then-not-is_cper-clause-result_after
returns-then-not-is_cper-clause-result_after c =
    let a = c.args in
    let good : valid_of a.rules.now ≡ true = sym c.valid.ensures ∙ c.if-not-valid.false in
    let other : is_cper a.cper.now ≡ false = sym c.is_cper.ensures ∙ c.if-not-is_cper.true in
    rw c.refused-then-not-is_cper.ensures (listed_header a.rules.now a.cper.now a.record_id.now a.limit a.spans.now (omega arith) good other)

-- ---- the work

pub fill-requires : goal.fill-requires
fill-requires c = sym c.valid.ensures ∙ c.if-not-valid.false

pub walk_sections-end-requires : goal.walk_sections-end-requires
walk_sections-end-requires c =
    let a = c.args in
    let is : is_cper a.cper.now ≡ true = sym c.is_cper.ensures ∙ c.if-not-is_cper.false in
    let made = c.new-bounds.ensures in
    let sound = start_sound a.rules.now a.limit a.spans.now (sym c.valid.ensures ∙ c.if-not-valid.false) (omega arith) c.new-bounds.result made.limit_is made.room_is in
    (header_whole a.cper.now is, record { short = omega arith; rows = sound.rows })

pub returns : goal.returns
unfolding regions_of
returns c =
    let a = c.args in
    let good : valid_of a.rules.now ≡ true = sym c.valid.ensures ∙ c.if-not-valid.false in
    let is : is_cper a.cper.now ≡ true = sym c.is_cper.ensures ∙ c.if-not-is_cper.false in
    let made = c.new-bounds.ensures in
    let y = c.walk_sections-end in
    let f = with_fit a.rules.now a.cper.now a.record_id.now a.limit a.spans.now
    (rw (c.listing_at.ensures, c.untold.ensures)
    (listed_run a.rules.now a.cper.now a.record_id.now a.limit a.spans.now (omega arith) good is (y.new.spans, y.result)
    (rw (made.rules_are, made.limit_is, made.room_is, c.fill.ensures) at y.ensures))) in
    record { result_after = f.0; width_in_bounds = f.1 }
