-- The rows of every listing of a CPER are nested, region by region: for any input, identifier, rules, limit and table.
-- By induction over the regions: the first joined rows are the first of a region's, then the first of the others'. Assumes nothing.
use mathlib.Core.Path.{◌≡◌, refl, ap, sym, ◌∙◌}
use mathlib.Core.List.{List, [], ◌∷◌, ◌++◌}
use Prim.Native.Nat.{ℕ, zero, suc, ◌+◌, ◌-◌, ◌≤◌}
use native.Mathlib.Omega.{arith}
use native.Mathlib.Nat.{sub-zero}
use lib.ListN.{length, take, drop, length-take}
use lib.Seq.{take-nil}
use Rattle.region_rows.specs.declared.Span.{Span}
use Rattle.region_rows.specs.Rows.{top, spans_in}
use Rattle.region_rows.proofs.Rows.{spans_laid}
use Rattle.region_try.specs.Tries.{rows_found}
use Rattle.region_try.proofs.Tries.{rows_append}
use Rattle.region.specs.Listing.{shown}
use Rattle.region.specs.declared.Listing.{Listing}
use Rattle.region_laws.specs.Clauses.{rows_of}
use Rattle.region_laws.specs.Whole.{rows_first}
use Rattle.region_laws.proofs.Shown.{rows_shown, shown_first}
use Rattle.cper_regions.specs.Regions.{Region, regions_of}
use Rattle.cper_regions.specs.Listing.{tries_in, joined_tries, cper_tries, room, cper_listed}
use Rattle.cper_regions_laws.proofs.Moved.{region_row_count}
use Rattle.cper_regions_laws.proofs.Refusals.{listed_cases}
use Rattle.nesting_laws.specs.Sections.{row_count, NestedEach}
use Rattle.nesting_laws.proofs.Listed.{first_nested}

-- ---- the first of some rows and then of others

first_part : (xs ys : List Span) (k : ℕ) → take (length xs) (take k (xs ++ ys)) ≡ take k xs
first_part [] ys k = sym (take-nil k)
first_part (x ∷ xs) ys zero = refl
first_part (x ∷ xs) ys (suc k) = ap (λ (l : List Span). x ∷ l) (first_part xs ys k)

second_part : (xs ys : List Span) (k : ℕ) → drop (length xs) (take k (xs ++ ys)) ≡ take (k - length xs) ys
second_part [] ys k = rw (sub-zero k)
second_part (x ∷ xs) ys zero = let none : 0 - suc (length xs) ≡ 0 = omega arith in rw none
second_part (x ∷ xs) ys (suc k) = let less : suc k - suc (length xs) ≡ k - length xs = omega arith in rw less (second_part xs ys k)

-- ---- the regions in turn

module _ (rules : List ℕ) where
  -- the first rows of some regions, with n rows before them, so many as have numbers
  each_nested : (gs : List Region) (n k : ℕ) → k ≤ top - n → NestedEach rules gs n (take k (rows_found (joined_tries rules gs n)))
  unfolding joined_tries rows_found NestedEach
  each_nested [] n k few = take-nil k
  each_nested (g ∷ gs) n k few =
      let own = rows_found (tries_in rules g n) in
      let others = rows_found (joined_tries rules gs (n + length own)) in
      let count : length own ≡ row_count rules g = region_row_count rules g n in
      rw (rows_append (tries_in rules g n) (joined_tries rules gs (n + length own)), ← count, first_part own others k, second_part own others k)
      (first_nested rules g.bytes g.offset n k few, each_nested gs (n + length own) (k - length own) (omega arith))

module _ (rules cper id : List ℕ) (limit : ℕ) (t : List ℕ) where
  pub sections_nested : NestedEach rules (regions_of cper id) 0 (rows_of (cper_listed rules cper id limit t))
  unfolding spans_in
  sections_nested =
      listed_cases rules cper id limit t (λ (x : List ℕ × Listing). NestedEach rules (regions_of cper id) 0 (rows_of x)) none none none
      (λ ok.
      let rows = (shown limit (room t) (cper_tries rules cper id)).rows in
      let e : rows ≡ take (length rows) (rows_found (cper_tries rules cper id)) = shown_first limit (room t) (cper_tries rules cper id) in
      let few : length rows ≤ room t = omega (arith, ap length (rows_shown limit (room t) (cper_tries rules cper id)) ∙ length-take (room t) (rows_first limit (cper_tries rules cper id))) in
      rw (spans_laid rows t, e) (each_nested rules (regions_of cper id) 0 (length rows) (omega arith)))
    where
      none : NestedEach rules (regions_of cper id) 0 []
      none = each_nested rules (regions_of cper id) 0 0 (omega arith)
