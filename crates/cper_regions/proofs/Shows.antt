-- The listing of a CPER: its refusals in their order, and the listing that the walk of all its regions gives.
-- By the tests' outcomes, and by what a run of tries shows. Assumes nothing.
use mathlib.Core.Path.{◌≡◌, refl, ap, sym, ◌∙◌}
use mathlib.Core.List.{List}
use mathlib.Core.Bool.{Bool, true, false, cond}
use Prim.Native.Nat.{ℕ, ◌≤◌, ◌<◌}
use native.Mathlib.Omega.{arith}
use lib.Dec.{ltb}
use lib.ListN.{length}
use borrow.Author.Tests.{lt-ltb, le-ltb, ltb-false}
use Rattle.answers.specs.Numbers.{most_bytes}
use Rattle.rules.specs.Rules.{valid_of}
use Rattle.region_try.specs.Stops.{Standing, unknown, standing_told}
use Rattle.region_try.specs.Steps.{Walk, run}
use Rattle.region_try.proofs.Stops.{told_unknown}
use Rattle.region_walk.specs.Steps.{going, end_telling}
use Rattle.region.specs.Listing.{refusal}
use Rattle.region.specs.declared.Answer.TheVariants.{TooLong, BadRules, NotCper}
use Rattle.region.specs.declared.Listing.{Listing}
use Rattle.region.proofs.Shows.{made, run_listed, rows_fit, Fits, equal_fits}
use Rattle.cper_header.specs.Record.{is_cper}
use Rattle.cper_regions.specs.Listing.{cper_tries, room, cper_walked, cper_listed}

module _ (rules cper id : List ℕ) (limit : ℕ) (t : List ℕ) where
  -- ---- refusals

  pub listed_long : most_bytes < length cper → ◌≡◌ {A = List ℕ × Listing} (t, refusal TooLong) (cper_listed rules cper id limit t)
  unfolding cper_listed
  listed_long h = rw (lt-ltb most_bytes (length cper) h)

  module _ (short : length cper ≤ most_bytes) where
    pub listed_rules : valid_of rules ≡ false → ◌≡◌ {A = List ℕ × Listing} (t, refusal BadRules) (cper_listed rules cper id limit t)
    unfolding cper_listed
    listed_rules e = rw (le-ltb most_bytes (length cper) short, e)

    module _ (valid : valid_of rules ≡ true) where
      pub listed_header : is_cper cper ≡ false → ◌≡◌ {A = List ℕ × Listing} (t, refusal NotCper) (cper_listed rules cper id limit t)
      unfolding cper_listed
      listed_header e = rw (le-ltb most_bytes (length cper) short, valid, e)

      -- ---- the walk

      module _ (is : is_cper cper ≡ true) where
        pub listed_walked : cper_listed rules cper id limit t ≡ cper_walked rules cper id limit t
        unfolding cper_listed
        listed_walked = rw (le-ltb most_bytes (length cper) short, valid, is)

        pub listed_run : (m : Walk) → m ≡ run limit (room t) (cper_tries rules cper id) (going t 0 0 true) → made (end_telling unknown m) ≡ cper_listed rules cper id limit t
        unfolding cper_walked
        listed_run m e =
            ap (λ (standing : Standing). made (end_telling standing m)) (sym (told_unknown m.1.cut))
            ∙ ap (λ (n : Walk). made (end_telling (standing_told n.1.cut unknown) n)) e
            ∙ run_listed limit (room t) (cper_tries rules cper id) t (omega arith) unknown
            ∙ sym listed_walked

  -- ---- every listing

  -- what holds of the refusals, and of the walk where nothing is refused, holds of the listing
  pub listed_cases : (P : List ℕ × Listing → Type 0) → P (t, refusal TooLong) → P (t, refusal BadRules) → P (t, refusal NotCper)
      → (length cper ≤ most_bytes → valid_of rules ≡ true → is_cper cper ≡ true → P (cper_walked rules cper id limit t)) → P (cper_listed rules cper id limit t)
  unfolding cper_listed
  listed_cases P long bad other work = by (ltb most_bytes (length cper)) (valid_of rules) (is_cper cper) refl refl refl
    where
      by : (a b c : Bool) → ltb most_bytes (length cper) ≡ a → valid_of rules ≡ b → is_cper cper ≡ c
          → P (cond a (t, refusal TooLong) (cond b (cond c (cper_walked rules cper id limit t) (t, refusal NotCper)) (t, refusal BadRules)))
      by true b c e f g = long
      by false false c e f g = bad
      by false true false e f g = other
      by false true true e f g = work (ltb-false most_bytes (length cper) e) f g

  -- its rows fit the table
  pub with_fit : {x : List ℕ × Listing} → x ≡ cper_listed rules cper id limit t → (x ≡ cper_listed rules cper id limit t) × Fits t x
  unfolding cper_walked
  with_fit e =
      equal_fits t
      (listed_cases (Fits t) (omega arith) (omega arith) (omega arith) (λ short valid is. rows_fit limit (room t) (cper_tries rules cper id) t (omega arith)))
      e
