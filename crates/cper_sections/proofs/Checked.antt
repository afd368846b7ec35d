-- The checks of a CPER: what passes is short and has a whole header.
-- By the tests' outcomes. Assumes nothing.
use mathlib.Core.Path.{◌≡◌, refl}
use mathlib.Core.List.{List}
use mathlib.Core.Bool.{Bool, true, false, cond, ◌&&◌}
use Prim.Native.Nat.{ℕ, ◌≤◌}
use native.Mathlib.Omega.{arith}
use lib.Dec.{eqb, leb, ltb}
use lib.ListN.{length}
use borrow.Author.Tests.{le-ltb, ltb-false, leb-true}
use Rattle.std.specs.Prelude.{Result, Ok, Err}
use Rattle.le.specs.Le.{le}
use Rattle.basics.proofs.Bools.{both}
use Rattle.answers.specs.Numbers.{most_bytes}
use Rattle.cper_header.specs.Record.{header_size, signature, signature_end, starts_with, is_cper}
use Rattle.cper_sections.specs.Answers.{check_of, checked}
use Rattle.cper_sections.specs.declared.Refusal.{Refusal}
use Rattle.cper_sections.specs.declared.Refusal.TheVariants.{TooLong, NotCper}

pub header_whole : (cper : List ℕ) → is_cper cper ≡ true → header_size ≤ length cper
unfolding is_cper
header_whole cper e =
    leb-true header_size (length cper)
    (both (leb header_size (length cper)) (starts_with signature cper && eqb (le 4 cper 6) signature_end) e).0

-- what passes the checks
pub record Passed (cper : List ℕ) : Type 0 where
  pub short : length cper ≤ most_bytes
  pub is : is_cper cper ≡ true
  pub header : header_size ≤ length cper

pub passes : (cper : List ℕ) → check_of cper ≡ Ok tt → Passed cper
unfolding check_of
passes cper = by (ltb most_bytes (length cper)) (is_cper cper) refl refl
  where
    by : (long good : Bool) → ltb most_bytes (length cper) ≡ long → is_cper cper ≡ good
        → ◌≡◌ {A = Result (Unit {0}) Refusal} (cond long (Err TooLong) (cond good (Ok tt) (Err NotCper))) (Ok tt) → Passed cper
    by true good l i q = let no : ◌≡◌ {A = ℕ} 0 1 = cc in absurd (omega arith)
    by false true l i q = record { short = ltb-false most_bytes (length cper) l; is = i; header = header_whole cper i }
    by false false l i q = let no : ◌≡◌ {A = ℕ} 0 1 = cc in absurd (omega arith)

-- a CPER passes
pub a_cper : {A : Type 0} (cper : List ℕ) (refused : Refusal → A) (work : A) → length cper ≤ most_bytes → is_cper cper ≡ true → work ≡ checked cper refused work
unfolding check_of
a_cper cper refused work short is = rw (le-ltb most_bytes (length cper) short, is)
