-- `list` gives the listing, whose rows fit the table.
-- The walk from the top, its answer and its mark are those of the definition. Assumes nothing.
use mathlib.Core.Path.{◌≡◌, sym, ◌∙◌}
use mathlib.Core.Bool.{true}
use mathlib.Core.List.{List}
use Prim.Native.Nat.{ℕ}
use native.Mathlib.Omega.{arith}
use Rattle.rules.specs.Rules.{valid_of}
use Rattle.region_walk.proofs.Start.{start_sound}
use Rattle.region.specs.declared.Listing.{Listing}
use Rattle.region.specs.Listing.{listed}
use Rattle.region.proofs.Shows.{listed_long, listed_rules, listed_run, with_fit}
use Rattle.region.proofs.list.Goals as goal

pub returns-then-region-gt-MOST_BYTES-clause-result_after : goal.returns-then-region-gt-MOST_BYTES-clause-result_after
returns-then-region-gt-MOST_BYTES-clause-result_after c =
    let a = c.args in
    rw c.refused.ensures (listed_long a.rules.now a.region.now a.limit a.spans.now (omega arith))

pub returns-then-not-valid-clause-result_after : goal.returns-then-not-valid-clause-result_after
returns-then-not-valid-clause-result_after c =
    let a = c.args in
    rw c.refused-then-not-valid.ensures
    (listed_rules a.rules.now a.region.now a.limit a.spans.now (omega arith) (sym c.valid.ensures ∙ c.if-not-valid.true))

pub fill-requires : goal.fill-requires
fill-requires c = sym c.valid.ensures ∙ c.if-not-valid.false

pub region_walk-requires : goal.region_walk-requires
region_walk-requires c =
    let a = c.args in
    let made = c.new-bounds.ensures in
    let sound = start_sound a.rules.now a.limit a.spans.now (sym c.valid.ensures ∙ c.if-not-valid.false) (omega arith) c.new-bounds.result made.limit_is made.room_is in
    record { offsets = omega arith; deep = omega arith; rows = sound.rows }

pub returns : goal.returns
returns c =
    let a = c.args in
    let good : valid_of a.rules.now ≡ true = sym c.valid.ensures ∙ c.if-not-valid.false in
    let made = c.new-bounds.ensures in
    let y = c.region_walk in
    let e : ◌≡◌ {A = List ℕ × Listing} (y.new.spans, c.listing_at.result) (listed a.rules.now a.region.now a.limit a.spans.now) =
    rw c.listing_at.ensures
    (listed_run a.rules.now a.region.now a.limit a.spans.now (omega arith) good (y.new.spans, y.result)
    (rw (made.rules_are, made.limit_is, made.room_is, c.fill.ensures) at y.ensures)) in
    let p = with_fit a.rules.now a.region.now a.limit a.spans.now e in
    record { result_after = p.0; width_in_bounds = p.1 }
