-- With one region the listing is that of the region alone, offsets moved; without a record it answers 5.
-- By induction over the tries shown, and by cases on the answer. Assumes nothing.
use mathlib.Core.Path.{◌≡◌, refl, ap, ap₂, sym, ◌∙◌}
use mathlib.Core.List.{List, [], ◌∷◌, map, append-nil}
use mathlib.Core.Bool.{Bool, true, false, cond, ◌&&◌}
use Prim.Native.Nat.{ℕ, zero, suc, ◌+◌, ◌≤◌}
use native.Mathlib.Omega.{arith}
use native.Mathlib.Nat.{zero-add}
use lib.Dec.{eqb}
use lib.ListN.{length, length-map}
use Rattle.answers.specs.Numbers.{most_bytes}
use Rattle.region_rows.specs.declared.Span.{Span}
use Rattle.region_rows.specs.Rows.{capacity}
use Rattle.region_rows.proofs.Rows.{spans_laid}
use Rattle.region_try.specs.Stops.{stop_of, bad_type_of}
use Rattle.region_try.specs.Tries.{Try, none, hit, all_tries}
use Rattle.region_try.specs.Whole.{all_keep_whole}
use Rattle.region_try.specs.declared.Cut.{Cut}
use Rattle.region_try.specs.declared.Cut.TheVariants.{Going, Full, Spent}
use Rattle.region_try.specs.declared.stop.Stop.{Stop}
use Rattle.region.specs.Listing.{number_of, answer_without, answer_of, Shown, tried, tried_row, shown, top_stands, walked, listed}
use Rattle.region.specs.declared.Answer.{Answer}
use Rattle.region.specs.declared.Answer.TheVariants.{Done, TooLong, BadRules, NotCper, BadHeader, BadType, Empty, SpansFull, TriesSpent}
use Rattle.region.proofs.Shows.{listed_walked, uncapped}
use Rattle.region_laws.specs.Clauses.{Every}
use Rattle.cper_regions.specs.Regions.{Region, regions_of}
use Rattle.cper_regions.specs.Listing.{tries_in, joined_tries, cper_tries, room, cper_listed}
use Rattle.cper_regions_laws.specs.Whole.{Accepted, showing}
use Rattle.cper_regions_laws.specs.Moved.{placed, shifted, moved, moved_try}
use Rattle.cper_regions_laws.specs.One.{skipped, Beside}
use Rattle.cper_regions_laws.specs.Lies.{Lies}
use Rattle.cper_regions_laws.proofs.Refusals.{accepted_shown}
use Rattle.cper_regions_laws.proofs.Moved.{moved_tries, region_moved}
use Rattle.cper_regions_laws.proofs.Clauses.{keep_moved}
use Rattle.cper_regions_laws.proofs.Lies.{regions_lie}

-- ---- what is shown of moved tries

abbrev with_rows : (Span → Span) → Shown → Shown
with_rows f s = record { rows = map f s.rows; tries = s.tries; cut = s.cut }

shown_moved : (o n limit free : ℕ) (vs : List Try) → shown limit free (moved_tries o n vs) ≡ with_rows (moved o n) (shown limit free vs)
unfolding shown moved_try
shown_moved o n limit free [] = refl
shown_moved o n zero free (v ∷ vs) = refl
shown_moved o n (suc limit) free (none l at head ∷ vs) = ap (λ (s : Shown). tried s) (shown_moved o n limit free vs)
shown_moved o n (suc limit) zero (hit r ∷ vs) = refl
shown_moved o n (suc limit) (suc free) (hit r ∷ vs) = ap (λ (s : Shown). tried_row (moved o n r) s) (shown_moved o n limit free vs)

-- where no row stands before, the offset alone is moved
moved_first : (o : ℕ) (rs : List Span) → map (moved o 0) rs ≡ map (shifted o) rs
moved_first o [] = refl
moved_first o (r ∷ rs) = ap₂ (λ (x : Span) (l : List Span). x ∷ l) (ap (λ (p : ℕ). placed p (o + r.offset) r) (by (eqb r.level 0))) (moved_first o rs)
  where
    by : (b : Bool) → cond b r.parent (0 + r.parent) ≡ r.parent
    by true = refl
    by false = zero-add r.parent

-- ---- the answer

without_skipped : (stop : Stop) (type : ℕ) → Empty ≡ skipped (answer_without stop type)
without_skipped Stop.Untold type = refl
without_skipped Stop.EndOfInput type = refl
without_skipped Stop.ZeroWord type = refl
without_skipped Stop.DeadbeefWord type = refl
without_skipped Stop.FewBytes type = refl
without_skipped Stop.BadHeader type = refl
without_skipped Stop.BadType type = refl
without_skipped Stop.SizeZero type = refl

answer_skipped : (cut : Cut) (n : ℕ) (stop : Stop) (type : ℕ) → answer_of cut n Stop.Untold 0 ≡ skipped (answer_of cut n stop type)
answer_skipped Full n stop type = refl
answer_skipped Spent n stop type = refl
answer_skipped Going zero stop type = without_skipped stop type
answer_skipped Going (suc n) stop type = refl

-- 0 is told of both, or of neither
zero_skipped : (answer : Answer) → eqb (number_of (skipped answer)) 0 ≡ eqb (number_of answer) 0
zero_skipped Done = refl
zero_skipped TooLong = refl
zero_skipped BadRules = refl
zero_skipped NotCper = refl
zero_skipped BadHeader = refl
zero_skipped (BadType t) = refl
zero_skipped Empty = refl
zero_skipped SpansFull = refl
zero_skipped TriesSpent = refl

-- ---- the listing

module _ (rules cper id t : List ℕ) (ok : Accepted rules cper) (g : Region) (one : regions_of cper id ≡ g ∷ []) (limit : ℕ) where
  short : length g.bytes ≤ most_bytes
  unfolding Every
  short =
      let l : Every (Lies cper) (g ∷ []) = rw one at (regions_lie cper id) in
      let a : g.offset + length g.bytes ≤ length cper = l.0.inside in
      let b : length cper ≤ most_bytes = ok.short in
      omega arith

  one_tries : cper_tries rules cper id ≡ moved_tries g.offset 0 (all_tries rules g.bytes)
  unfolding joined_tries
  one_tries = ap (λ (gs : List Region). joined_tries rules gs 0) one ∙ append-nil (tries_in rules g 0) ∙ region_moved g.offset 0 rules g.bytes

  abbrev alone : Shown
  alone = shown limit (capacity t) (all_tries rules g.bytes)

  one_shown : shown limit (room t) (cper_tries rules cper id) ≡ with_rows (shifted g.offset) alone
  one_shown =
      ap (λ (vs : List Try). shown limit (room t) vs) one_tries
      ∙ shown_moved g.offset 0 limit (room t) (all_tries rules g.bytes)
      ∙ ap (λ (s : Shown). with_rows (moved g.offset 0) s) (uncapped rules g.bytes limit t short)
      ∙ ap (λ (rs : List Span). record { rows = rs; tries = alone.tries; cut = alone.cut }) (moved_first g.offset alone.rows)

  beside : Beside g.offset (showing rules cper id t (with_rows (shifted g.offset) alone)) (walked rules g.bytes limit t)
  unfolding walked
  beside =
      let rs = alone.rows in
      let n : length (map (shifted g.offset) rs) ≡ length rs = length-map rs (shifted g.offset) in
      let stands = top_stands rules g.bytes in
      let a : answer_of alone.cut (length (map (shifted g.offset) rs)) Stop.Untold 0 ≡ skipped (answer_of alone.cut (length rs) (stop_of stands) (bad_type_of stands)) =
      ap (λ (k : ℕ). answer_of alone.cut k Stop.Untold 0) n ∙ answer_skipped alone.cut (length rs) (stop_of stands) (bad_type_of stands) in
      record {
        rows = spans_laid (map (shifted g.offset) rs) t ∙ ap (λ (l : List Span). map (shifted g.offset) l) (sym (spans_laid rs t));
        count = n;
        tries = refl;
        whole = ap₂ (λ (b : Answer) (c : Bool). eqb (number_of b) 0 && c) a (ap all_keep_whole one_tries ∙ keep_moved g.offset 0 (all_tries rules g.bytes))
            ∙ ap (λ (b : Bool). b && all_keep_whole (all_tries rules g.bytes)) (zero_skipped (answer_of alone.cut (length rs) (stop_of stands) (bad_type_of stands)));
        answer = a;
      }

  pub one_section : Beside g.offset (cper_listed rules cper id limit t) (listed rules g.bytes limit t)
  one_section = rw (accepted_shown rules cper id limit t ok, one_shown, listed_walked rules g.bytes limit t short ok.valid) beside
