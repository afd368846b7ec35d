-- The answers 3, 4 and 5 come with no row, an untouched table and one try, or none where the region is empty.
-- By the first try, after which a region without a record stops. Assumes nothing.
use mathlib.Core.Path.{◌≡◌, refl, ◌∙◌}
use mathlib.Core.List.{List, [], ◌∷◌}
use mathlib.Core.Logic.{⊎_elim}
use Prim.Native.Nat.{ℕ, zero, suc, ◌≤◌, ◌<◌, min}
use native.Mathlib.Omega.{arith}
use native.Mathlib.Nat.{eq-zero-or-pos}
use lib.ListN.{length}
use Rattle.header_judge.specs.Head.{head_of}
use Rattle.region_rows.specs.Rows.{top, capacity}
use Rattle.region_try.specs.Stops.{no_byte, stop_of, bad_type_of}
use Rattle.region_try.specs.Tries.{Try, none, hit, try_of, deepest, stands_at, Inside, onward, records, box_tries, region_tries, all_tries}
use Rattle.region.specs.Listing.{number_of, answer_of, top_stands, shown, walked, listed}
use Rattle.region_try.specs.declared.Cut.{Cut}
use Rattle.region_try.specs.declared.Cut.TheVariants.{Going, Full, Spent}
use Rattle.region_try.specs.declared.stop.Stop.{Stop}
use Rattle.region_try.specs.declared.stop.Stop.TheVariants.{EndOfInput}
use Rattle.region.specs.declared.Listing.{Listing}
use Rattle.region_try.proofs.Runs.{spent_going, full_going}
use Rattle.region.proofs.Shows.{listed_cases}
use Rattle.region_rows.proofs.Rows.{laid_none}
use Rattle.region_laws.specs.Whole.{Alone}

-- an answer up to 5 is that of a walk that was not cut off
pub uncut : (cut : Cut) (n : ℕ) (stop : Stop) (type : ℕ) → number_of (answer_of cut n stop type) ≤ 5 → cut ≡ Going
uncut Full n stop type g = absurd (omega arith)
uncut Spent n stop type g = absurd (omega arith)
uncut Going n stop type g = refl

-- from 3 to 5 of one that found no row
rowless : (cut : Cut) (n : ℕ) (stop : Stop) (type : ℕ) → 3 ≤ number_of (answer_of cut n stop type) → number_of (answer_of cut n stop type) ≤ 5 → n ≡ 0
rowless Full n stop type h g = absurd (omega arith)
rowless Spent n stop type h g = absurd (omega arith)
rowless Going zero stop type h g = refl
rowless Going (suc n) stop type h g = absurd (omega arith)

-- a walk that found no row and was not cut off made one try, if any
onward_alone : (limit room : ℕ) (box : Inside) (bs : List ℕ) (n : ℕ) (v : Try) (rest : ℕ → ℕ → List Try)
    → (shown limit room (onward box bs n v rest)).cut ≡ Going → length (shown limit room (onward box bs n v rest)).rows ≡ 0
    → (shown limit room (onward box bs n v rest)).tries ≡ 1
unfolding shown onward
onward_alone zero room box bs n (none l o head) rest e f = absurd (spent_going e)
onward_alone zero room box bs n (hit r) rest e f = absurd (spent_going e)
onward_alone (suc limit) room box bs n (none l o head) rest e f = refl
onward_alone (suc limit) zero box bs n (hit r) rest e f = absurd (full_going e)
onward_alone (suc limit) (suc room) box bs n (hit r) rest e f = absurd (omega arith)

tries_alone : (rules : List ℕ) (limit room : ℕ) (bytes : List ℕ)
    → (shown limit room (all_tries rules bytes)).cut ≡ Going → length (shown limit room (all_tries rules bytes)).rows ≡ 0
    → (shown limit room (all_tries rules bytes)).tries ≡ min 1 (length bytes)
unfolding all_tries region_tries records shown
tries_alone rules limit room [] e f = refl
tries_alone rules limit room (b ∷ bs) e f =
    onward_alone limit room (box_tries rules deepest) (b ∷ bs) 0 (try_of 0 top 0 (length (b ∷ bs)) (head_of rules (b ∷ bs))) (λ skip m. records rules (box_tries rules deepest) deepest top skip bs 1 m) e f
    ∙ omega arith

-- no bytes are the end of the input, which answers 5
no_bytes : (rules bytes : List ℕ) → length bytes ≡ 0 → top_stands rules bytes ≡ no_byte
unfolding all_tries region_tries records stands_at
no_bytes rules [] e = refl
no_bytes rules (b ∷ bs) e = absurd (omega arith)

empty_five : (cut : Cut) (n : ℕ) → 3 ≤ number_of (answer_of cut n EndOfInput 0) → number_of (answer_of cut n EndOfInput 0) ≤ 5 → number_of (answer_of cut n EndOfInput 0) ≡ 5
empty_five Full n h g = absurd (omega arith)
empty_five Spent n h g = absurd (omega arith)
empty_five Going zero h g = refl
empty_five Going (suc n) h g = absurd (omega arith)

module _ (rules bytes : List ℕ) (limit : ℕ) (t : List ℕ) where
  abbrev number : List ℕ × Listing → ℕ
  number x = number_of x.1.answer

  -- the answers 3, 4 and 5
  pub refused_alone : 3 ≤ number (listed rules bytes limit t) → number (listed rules bytes limit t) ≤ 5 → Alone bytes t (listed rules bytes limit t)
  unfolding walked
  refused_alone =
      listed_cases (λ (x : List ℕ × Listing). 3 ≤ number x → number x ≤ 5 → Alone bytes t x) rules bytes limit t
      (λ h g. absurd (omega arith)) (λ h g. absurd (omega arith))
      (λ short valid h g.
      let s = shown limit (capacity t) (all_tries rules bytes) in
      let going = uncut s.cut (length s.rows) (stop_of (top_stands rules bytes)) (bad_type_of (top_stands rules bytes)) g in
      let no_row = rowless s.cut (length s.rows) (stop_of (top_stands rules bytes)) (bad_type_of (top_stands rules bytes)) h g in
      record { table = laid_none s.rows t no_row; rows = no_row; tries = tries_alone rules limit (capacity t) bytes going no_row })

  -- an empty region answers 5
  empty_answer : length bytes ≡ 0 → 3 ≤ number (listed rules bytes limit t) → number (listed rules bytes limit t) ≤ 5 → number (listed rules bytes limit t) ≡ 5
  unfolding walked
  empty_answer e =
      listed_cases (λ (x : List ℕ × Listing). 3 ≤ number x → number x ≤ 5 → number x ≡ 5) rules bytes limit t
      (λ h g. absurd (omega arith)) (λ h g. absurd (omega arith))
      (λ short valid.
      rw (no_bytes rules bytes e)
      (empty_five (shown limit (capacity t) (all_tries rules bytes)).cut (length (shown limit (capacity t) (all_tries rules bytes)).rows)))

  -- 3 and 4 come with exactly one try
  pub bad_first_tries : 3 ≤ number (listed rules bytes limit t) → number (listed rules bytes limit t) ≤ 4 → (listed rules bytes limit t).1.tries ≡ 1
  bad_first_tries h g =
      let a : (listed rules bytes limit t).1.tries ≡ min 1 (length bytes) = (refused_alone h (omega arith)).tries in
      ⊎_elim
      (λ (e : length bytes ≡ 0). absurd (let k : number (listed rules bytes limit t) ≡ 5 = empty_answer e h (omega arith) in omega arith))
      (λ (p : 0 < length bytes). omega arith)
      (eq-zero-or-pos (length bytes))
