-- The refusals in their order, 1, 2 and 8, each with no row, no try and an untouched table; else the walk is shown.
-- By the tests that the listing makes. Assumes nothing.
use mathlib.Core.Path.{◌≡◌, sym}
use mathlib.Core.List.{List}
use mathlib.Core.Bool.{true, false}
use Prim.Native.Nat.{ℕ, ◌≤◌, ◌<◌}
use lib.ListN.{length}
use Rattle.answers.specs.Numbers.{most_bytes}
use Rattle.rules.specs.Rules.{valid_of}
use Rattle.region.specs.Listing.{shown, refusal}
use Rattle.region.specs.declared.Answer.TheVariants.{TooLong, BadRules, NotCper}
use Rattle.region.specs.declared.Listing.{Listing}
use Rattle.cper_header.specs.Record.{is_cper}
use Rattle.cper_regions.specs.Listing.{cper_tries, room, cper_walked, cper_listed}
use Rattle.cper_regions.proofs.Shows as shows
use Rattle.cper_regions_laws.specs.Whole.{Accepted, showing}

module _ (rules cper id : List ℕ) (limit : ℕ) (t : List ℕ) where
  pub refused_long : most_bytes < length cper → cper_listed rules cper id limit t ≡ (t, refusal TooLong)
  refused_long h = sym (shows.listed_long rules cper id limit t h)

  pub refused_rules : length cper ≤ most_bytes → valid_of rules ≡ false → cper_listed rules cper id limit t ≡ (t, refusal BadRules)
  refused_rules h g = sym (shows.listed_rules rules cper id limit t h g)

  pub refused_header : length cper ≤ most_bytes → valid_of rules ≡ true → is_cper cper ≡ false → cper_listed rules cper id limit t ≡ (t, refusal NotCper)
  refused_header h g f = sym (shows.listed_header rules cper id limit t h g f)

  pub accepted_shown : Accepted rules cper → cper_listed rules cper id limit t ≡ showing rules cper id t (shown limit (room t) (cper_tries rules cper id))
  unfolding cper_walked
  accepted_shown ok = shows.listed_walked rules cper id limit t ok.short ok.valid ok.is

  -- what holds of the refusals and of the walk that is shown holds of the listing
  pub listed_cases : (P : List ℕ × Listing → Type 0) → P (t, refusal TooLong) → P (t, refusal BadRules) → P (t, refusal NotCper)
      → (Accepted rules cper → P (showing rules cper id t (shown limit (room t) (cper_tries rules cper id))))
      → P (cper_listed rules cper id limit t)
  unfolding cper_walked
  listed_cases P long bad other walk =
      shows.listed_cases rules cper id limit t P long bad other (λ short valid is. walk (record { short = short; valid = valid; is = is }))
