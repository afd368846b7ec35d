-- `list_flat` gives the listing, whose rows fit the table.
-- The flat walk ends as the definition's run does, and the listing at its end is the definition's. Assumes nothing.
use mathlib.Core.Path.{◌≡◌, sym, ◌∙◌}
use mathlib.Core.List.{List}
use Prim.Native.Nat.{ℕ}
use native.Mathlib.Omega.{arith}
use Rattle.region.specs.declared.Listing.{Listing}
use Rattle.region.specs.Listing.{listed}
use Rattle.region.proofs.Shows.{listed_long, listed_rules, listed_run, with_fit}
use Rattle.region_flat.proofs.list_flat.Goals as goal

pub returns-then-region-gt-MOST_BYTES-clause-result_after : goal.returns-then-region-gt-MOST_BYTES-clause-result_after
returns-then-region-gt-MOST_BYTES-clause-result_after c =
    let a = c.args in
    rw c.refused.ensures (listed_long a.rules.now a.region.now a.limit a.spans.now (omega arith))

pub returns-then-not-valid-clause-result_after : goal.returns-then-not-valid-clause-result_after
returns-then-not-valid-clause-result_after c =
    let a = c.args in
    rw c.refused-then-not-valid.ensures
    (listed_rules a.rules.now a.region.now a.limit a.spans.now (omega arith) (sym c.valid.ensures ∙ c.if-not-valid.true))

pub returns : goal.returns
returns c =
    let a = c.args in
    let y = c.flat_walk in
    let e : ◌≡◌ {A = List ℕ × Listing} (y.new.spans, c.listing_at.result) (listed a.rules.now a.region.now a.limit a.spans.now) =
    rw c.listing_at.ensures
    (listed_run a.rules.now a.region.now a.limit a.spans.now (omega arith) (sym c.valid.ensures ∙ c.if-not-valid.false) (y.new.spans, y.result) (rw c.room_of.ensures at y.ensures)) in
    let p = with_fit a.rules.now a.region.now a.limit a.spans.now e in
    record { result_after = p.0; width_in_bounds = p.1 }
