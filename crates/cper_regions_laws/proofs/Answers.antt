-- No stop reason is told; the answer is 0, 1, 2, 5, 6, 7 or 8; and it is 5 exactly when no region holds a record, with no row and all tries made.
-- By cases on what cut the walk off and on the rows shown. Assumes nothing.
use mathlib.Core.Path.{◌≡◌, refl, ap, ◌∙◌}
use mathlib.Core.List.{List, []}
use mathlib.Core.Bool.{true}
use mathlib.Core.Logic.{◌↔◌}
use Prim.Native.Nat.{ℕ, zero, suc, ◌≤◌}
use native.Mathlib.Omega.{arith}
use lib.ListN.{length, drop_of_length-le}
use Rattle.region_rows.specs.declared.Span.{Span}
use Rattle.region_rows.proofs.Rows.{laid_none}
use Rattle.region_try.specs.Stops.{stop_of}
use Rattle.region_try.specs.declared.Cut.{Cut}
use Rattle.region_try.specs.declared.Cut.TheVariants.{Going, Full, Spent}
use Rattle.region_try.specs.declared.stop.Stop.TheVariants.{Untold}
use Rattle.region_try.proofs.Stops.{told_unknown}
use Rattle.region.specs.Listing.{Shown, number_of, answer_of, shown}
use Rattle.region.specs.declared.Listing.{Listing}
use Rattle.region_laws.specs.Whole.{all_shown}
use Rattle.region_laws.proofs.Shown.{tries_le_limit, going_shown}
use Rattle.cper_regions.specs.Listing.{cper_tries, room, cper_listed}
use Rattle.cper_regions_laws.specs.Positions.{cper_visited}
use Rattle.cper_regions_laws.specs.Whole.{all_rows, showing}
use Rattle.cper_regions_laws.specs.Answers.{among, answers_told, NoneHolds, none_listing}
use Rattle.cper_regions_laws.proofs.Positions.{tries_visited}
use Rattle.cper_regions_laws.proofs.Refusals.{listed_cases}
use Rattle.cper_regions_laws.proofs.Limits.{whole_listing_lem}

walk_answers : (cut : Cut) (n : ℕ) → among answers_told (number_of (answer_of cut n Untold 0)) ≡ true
unfolding among
walk_answers Going (suc n) = refl
walk_answers Going zero = refl
walk_answers Full n = refl
walk_answers Spent n = refl

-- 5 of a walk that was not cut off and found no row
five : (cut : Cut) (n : ℕ) → number_of (answer_of cut n Untold 0) ≡ 5 → (cut ≡ Going) × (n ≡ 0)
five Full n e = absurd (omega arith)
five Spent n e = absurd (omega arith)
five Going zero e = (refl, refl)
five Going (suc n) e = absurd (omega arith)

module _ (rules cper id : List ℕ) (limit : ℕ) (t : List ℕ) where
  pub stop_untold : (cper_listed rules cper id limit t).1.stop ≡ Untold
  stop_untold =
      listed_cases rules cper id limit t (λ (x : List ℕ × Listing). x.1.stop ≡ Untold) refl refl refl
      (λ ok. ap stop_of (told_unknown (shown limit (room t) (cper_tries rules cper id)).cut))

  pub answer_told : among answers_told (number_of (cper_listed rules cper id limit t).1.answer) ≡ true
  unfolding among
  answer_told =
      listed_cases rules cper id limit t (λ (x : List ℕ × Listing). among answers_told (number_of x.1.answer) ≡ true) refl refl refl
      (λ ok. let s = shown limit (room t) (cper_tries rules cper id) in walk_answers s.cut (length s.rows))

  -- ---- the answer 5

  -- no region holds a record: no row, an untouched table, and all tries made
  pub none_holds : NoneHolds rules cper id limit → cper_listed rules cper id limit t ≡ none_listing rules cper id t
  none_holds q =
      let z : length (all_rows rules cper id) ≡ 0 = ap length q.rowless in
      whole_listing_lem rules cper id t q.accepted (omega arith) limit q.enough
      ∙ ap (λ (rs : List Span). showing rules cper id t (record { rows = rs; tries = length (cper_visited rules cper id); cut = Going })) q.rowless
      ∙ rw (laid_none [] t refl)

  five_holds : number_of (cper_listed rules cper id limit t).1.answer ≡ 5 → NoneHolds rules cper id limit
  five_holds =
      listed_cases rules cper id limit t (λ (x : List ℕ × Listing). number_of x.1.answer ≡ 5 → NoneHolds rules cper id limit)
      (λ e. absurd (omega arith)) (λ e. absurd (omega arith)) (λ e. absurd (omega arith))
      (λ ok e.
      let s = shown limit (room t) (cper_tries rules cper id) in
      let q = five s.cut (length s.rows) e in
      let g : s ≡ all_shown (length (cper_tries rules cper id)) (cper_tries rules cper id) = going_shown limit (room t) (cper_tries rules cper id) q.0 in
      let n : s.tries ≡ length (cper_tries rules cper id) = ap (λ (x : Shown). x.tries) g in
      let r : length s.rows ≡ length (all_rows rules cper id) = ap (λ (x : Shown). length x.rows) g in
      let m : length (cper_tries rules cper id) ≡ length (cper_visited rules cper id) = tries_visited rules cper id in
      let l : s.tries ≤ limit = tries_le_limit limit (room t) (cper_tries rules cper id) in
      record {
        accepted = ok;
        enough = omega arith;
        rowless = drop_of_length-le (all_rows rules cper id) {i = 0} (omega arith);
      })

  pub five_exactly : (number_of (cper_listed rules cper id limit t).1.answer ≡ 5) ↔ NoneHolds rules cper id limit
  five_exactly = (five_holds, λ q. rw (none_holds q))

  pub five_skipped : number_of (cper_listed rules cper id limit t).1.answer ≡ 5 → cper_listed rules cper id limit t ≡ none_listing rules cper id t
  five_skipped e = none_holds (five_holds e)
