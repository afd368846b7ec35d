-- The rows of every listing of a region are nested: for any input, rules, limit and table.
-- They are the first rows of a nest, that of the walk. Assumes nothing.
use mathlib.Core.Path.{◌≡◌, ap, ◌∙◌}
use mathlib.Core.List.{List}
use Prim.Native.Nat.{ℕ, ◌+◌, ◌-◌, ◌≤◌}
use native.Mathlib.Omega.{arith}
use native.Mathlib.Nat.{zero-add}
use lib.ListN.{length, take, length-take}
use Rattle.region_rows.specs.declared.Span.{Span}
use Rattle.region_rows.specs.Rows.{top, capacity, spans_in}
use Rattle.region_rows.proofs.Rows.{spans_laid}
use Rattle.region_try.specs.Tries.{deepest, rows_found, region_tries, all_tries}
use Rattle.region_try.proofs.Bound.{all_bound, bytes_are_units}
use Rattle.region.specs.Listing.{shown, walked, listed}
use Rattle.region.specs.declared.Listing.{Listing}
use Rattle.region.proofs.Shows.{listed_cases}
use Rattle.region_laws.specs.Whole.{all_rows}
use Rattle.region_laws.specs.Clauses.{rows_of}
use Rattle.region_laws.proofs.Shown.{rows_le, shown_first}
use Rattle.nesting_laws.specs.Nesting.{NeverCross, Nested}
use Rattle.nesting_laws.proofs.Nest.{prefix}
use Rattle.nesting_laws.proofs.Walked.{region_nest}
use Rattle.nesting_laws.proofs.Nested.{nested}

-- the first rows of a region that starts at an offset, with n rows before it, so many as have numbers
pub first_nested : (rules bytes : List ℕ) (offset n k : ℕ) → k ≤ top - n
    → Nested n offset (offset + length bytes) (take k (rows_found (region_tries rules deepest bytes offset top n)))
first_nested rules bytes offset n k few =
    nested (omega (arith, length-take k (rows_found (region_tries rules deepest bytes offset top n)))) (prefix (region_nest rules deepest (omega arith) bytes offset top n) k)

module _ (rules bytes : List ℕ) where
  abbrev first : ℕ → List Span
  first k = take k (all_rows rules bytes)

  -- of a region by itself, all rows have numbers
  region_nested : (k : ℕ) → k ≤ top → Nested 0 0 (length bytes) (first k)
  unfolding all_tries
  region_nested k few = rw (zero-add (length bytes)) at (first_nested rules bytes 0 0 k (omega arith))

  module _ (limit : ℕ) (t : List ℕ) where
    pub listing_nested : Nested 0 0 (length bytes) (rows_of (listed rules bytes limit t))
    unfolding walked spans_in
    listing_nested =
        listed_cases (λ (x : List ℕ × Listing). Nested 0 0 (length bytes) (rows_of x)) rules bytes limit t
        (region_nested 0 (omega arith)) (region_nested 0 (omega arith))
        (λ short valid.
        let rows = (shown limit (capacity t) (all_tries rules bytes)).rows in
        let e : rows ≡ first (length rows) = shown_first limit (capacity t) (all_tries rules bytes) in
        let few : length rows ≤ top = omega (
          arith,
          ap length e ∙ length-take (length rows) (all_rows rules bytes),
          rows_le (all_tries rules bytes),
          all_bound rules (λ n. n) (bytes_are_units rules) bytes,
        ) in
        rw (spans_laid rows t, e) (region_nested (length rows) few))

    -- document 02, C-24
    pub rows_never_cross : NeverCross 0 (rows_of (listed rules bytes limit t))
    rows_never_cross = listing_nested.never_cross
