-- The reason that a listing tells is what stands at the position where the top walk stops; it is told with the answers 0, 3, 4 and 5.
-- By induction over the bytes: records move the position on, and what stands inside Boxes has no say. Assumes nothing.
use mathlib.Core.Path.{◌≡◌, refl, ap, sym, ◌∙◌}
use mathlib.Core.List.{List, [], ◌∷◌}
use mathlib.Core.Bool.{Bool, true, false, cond}
use mathlib.Core.Logic.{◌↔◌}
use Prim.Native.Nat.{ℕ, zero, suc, ◌+◌, ◌-◌, ◌≤◌}
use native.Mathlib.Omega.{arith}
use lib.Dec.{eqb}
use lib.ListN.{length, take, drop, length-drop}
use Rattle.std.proofs.Common.{Ok, Err}
use Rattle.header_judge.specs.Version.{ending_number}
use Rattle.header_judge.specs.declared.NoRecord.TheVariants.{Ended, BadHeader, BadType}
use Rattle.header_judge.specs.Head.{head_of, Head}
use Rattle.header_judge.specs.declared.version.Ending.{Ending}
use Rattle.header_judge.specs.declared.version.Ending.TheVariants.{ZeroWord, DeadbeefWord, FewBytes}
use Rattle.region_rows.specs.Rows.{top, capacity}
use Rattle.region_try.specs.Stops.{Standing, header, standing_told, stop_ended, stop_by, stop_of, stop_number, bad_type_of}
use Rattle.region_try.specs.Tries.{Try, none, hit, span_of, try_of, deepest, rows_found, stands_at, within, onward, records, box_tries, region_tries, all_tries}
use Rattle.region_try.specs.declared.Cut.{Cut}
use Rattle.region_try.specs.declared.Cut.TheVariants.{Going, Full, Spent}
use Rattle.region_try.specs.declared.stop.Stop.{Stop}
use Rattle.region_try.specs.declared.stop.Stop.TheVariants.{Untold, EndOfInput}
use Rattle.region_try.proofs.Stops.{past_within, past_box, ending_number_lem}
use Rattle.region.specs.Listing.{number_of, answer_of, answer_shown, top_stands, shown, walked, listed}
use Rattle.region.specs.declared.Listing.{Listing}
use Rattle.region.proofs.Shows.{listed_cases}
use Rattle.region_laws.specs.Nested.{by_head}
use Rattle.region_laws.specs.Reach.{onto, reach, position, standing_in, standing_last, tells}

module _ (rules : List ℕ) where
  -- ---- what stands where the walk stops

  -- the tries from a header on, where b is its first byte
  stands_onward : (parent offset : ℕ) (b : ℕ) (bs : List ℕ) (n : ℕ) (head : Head) (rest : ℕ → ℕ → List Try)
      → head_of rules (b ∷ bs) ≡ head → ((k m : ℕ) → stands_at 0 (rest k m) ≡ standing_in rules (drop (reach rules k bs) bs))
      → stands_at 0 (onward (box_tries rules deepest) (b ∷ bs) n (try_of 0 parent offset (length (b ∷ bs)) head) rest)
      ≡ standing_in rules (drop (onto head (λ skip. reach rules skip bs)) (b ∷ bs))
  unfolding onward try_of by_head stands_at
  stands_onward parent offset b bs n (Err why) rest e after = ap header (sym e)
  stands_onward parent offset b bs n (Ok s) rest e after = by (eqb s.declared 0)
    where
      by : (b₁ : Bool)
          → stands_at 0 (onward (box_tries rules deepest) (b ∷ bs) n (cond b₁ (none 0 offset (Ok s)) (hit (span_of 0 parent offset (length (b ∷ bs)) s))) rest)
          ≡ standing_in rules (drop (cond b₁ 0 (suc (reach rules (s.declared - 1) bs))) (b ∷ bs))
      by true = ap header (sym e)
      by false =
          let r = span_of 0 parent offset (length (b ∷ bs)) s in
          let inner = within (box_tries rules deepest) (take s.declared (b ∷ bs)) r n in
          let m = n + 1 + length (rows_found inner) in
          past_within 0 (box_tries rules deepest) (past_box rules deepest 0 (omega arith) (omega arith)) (take s.declared (b ∷ bs)) r n (rest (s.declared - 1) m)
          ∙ after (s.declared - 1) m

  stands_records : (parent skip : ℕ) (bs : List ℕ) (offset n : ℕ)
      → stands_at 0 (records rules (box_tries rules deepest) deepest parent skip bs offset n) ≡ standing_in rules (drop (reach rules skip bs) bs)
  unfolding records reach stands_at
  stands_records parent zero [] offset n = refl
  stands_records parent (suc k) [] offset n = refl
  stands_records parent (suc k) (b ∷ bs) offset n = stands_records parent k bs (offset + 1) n
  stands_records parent zero (b ∷ bs) offset n =
      stands_onward parent offset b bs n (head_of rules (b ∷ bs)) (λ k m. records rules (box_tries rules deepest) deepest parent k bs (offset + 1) m) refl
      (λ k m. stands_records parent k bs (offset + 1) m)

  -- what stands where the top region stops, by its tries, is what stands at its position
  pub top_stands_lem : (bytes : List ℕ) → top_stands rules bytes ≡ standing_last rules bytes
  unfolding all_tries region_tries
  top_stands_lem bytes = stands_records top 0 bytes 0 0

-- ---- reasons

-- where a header stands, the reason is neither untold nor the end of the input
ended_number : (ending : Ending) → 2 ≤ stop_number (stop_ended ending)
ended_number ZeroWord = omega arith
ended_number DeadbeefWord = omega arith
ended_number FewBytes = omega arith

header_number : (head : Head) → 2 ≤ stop_number (stop_by head)
header_number (Err (Ended ending)) = ended_number ending
header_number (Err BadHeader) = omega arith
header_number (Err (BadType t)) = omega arith
header_number (Ok s) = omega arith

end_untold : EndOfInput ≡ Untold → ⊥
end_untold e = let z : stop_number EndOfInput ≡ stop_number Untold = ap stop_number e in omega arith

module _ (rules : List ℕ) where
  in_end : (bs : List ℕ) → (stop_of (standing_in rules bs) ≡ EndOfInput) ↔ (length bs ≡ 0)
  in_end [] = (λ e. refl, λ e. refl)
  in_end (b ∷ bs) = (
    λ e.
        let n : 2 ≤ stop_number (stop_by (head_of rules (b ∷ bs))) = header_number (head_of rules (b ∷ bs)) in
        let z : stop_number (stop_by (head_of rules (b ∷ bs))) ≡ 1 = ap stop_number e in
        absurd (omega arith),
    λ e. absurd (omega arith),
  )

  in_told : (bs : List ℕ) → stop_of (standing_in rules bs) ≡ Untold → ⊥
  in_told [] e = end_untold e
  in_told (b ∷ bs) e =
      let n : 2 ≤ stop_number (stop_by (head_of rules (b ∷ bs))) = header_number (head_of rules (b ∷ bs)) in
      let z : stop_number (stop_by (head_of rules (b ∷ bs))) ≡ 0 = ap stop_number e in
      omega arith

  -- the reason is the end of the input exactly when the top walk's position has reached the region's length
  pub end_of_input_lem : (bytes : List ℕ) → (stop_of (standing_last rules bytes) ≡ EndOfInput) ↔ (length bytes ≤ position rules bytes)
  end_of_input_lem bytes =
      let left = drop (position rules bytes) bytes in
      let n : length left ≡ length bytes - position rules bytes = length-drop (position rules bytes) bytes in (
        λ e. let z : length left ≡ 0 = (in_end left).0 e in omega arith,
        λ h. (in_end left).1 (omega arith),
      )

-- ---- what a listing tells

told_without : (stop : Stop) (type : ℕ) → stop ≡ cond (tells (number_of (answer_of Going 0 stop type))) stop Untold
told_without Untold type = refl
told_without EndOfInput type = refl
told_without Stop.ZeroWord type = refl
told_without Stop.DeadbeefWord type = refl
told_without Stop.FewBytes type = refl
told_without Stop.BadHeader type = refl
told_without Stop.BadType type = refl
told_without Stop.SizeZero type = refl

told_by_lem : (cut : Cut) (n : ℕ) (s : Standing) → stop_of (standing_told cut s) ≡ cond (tells (number_of (answer_of cut n (stop_of s) (bad_type_of s)))) (stop_of s) Untold
told_by_lem Full n s = refl
told_by_lem Spent n s = refl
told_by_lem Going zero s = told_without (stop_of s) (bad_type_of s)
told_by_lem Going (suc n) s = refl

module _ (rules bytes : List ℕ) (limit : ℕ) (t : List ℕ) where
  abbrev end : Listing
  end = (listed rules bytes limit t).1

  abbrev told : Bool
  told = tells (number_of end.answer)

  -- why the top walk stops, with those answers; else nothing
  pub stop_listed : end.stop ≡ cond told (stop_of (standing_last rules bytes)) Untold
  unfolding walked
  stop_listed =
      listed_cases (λ (x : List ℕ × Listing). x.1.stop ≡ cond (tells (number_of x.1.answer)) (stop_of (standing_last rules bytes)) Untold) rules bytes limit t
      refl refl
      (λ short valid.
      let s = shown limit (capacity t) (all_tries rules bytes) in
      told_by_lem s.cut (length s.rows) (top_stands rules bytes)
      ∙ ap (λ (k : Standing). cond (tells (number_of (answer_shown (top_stands rules bytes) s))) (stop_of k) Untold) (top_stands_lem rules bytes))

  pub told_stands : told ≡ true → end.stop ≡ stop_of (standing_last rules bytes)
  told_stands e = stop_listed ∙ rw e

  -- where the records end there, the listing tells what a header's judgement tells of it
  pub ending_told_lem : told ≡ true → {ending : Ending} {b : ℕ} {bs : List ℕ} → drop (position rules bytes) bytes ≡ b ∷ bs → head_of rules (b ∷ bs) ≡ Err (Ended ending)
      → stop_number end.stop ≡ ending_number ending
  ending_told_lem e {ending} d h = ap stop_number (told_stands e) ∙ rw (d, h) (ending_number_lem ending)

  pub told_exactly : (end.stop ≡ Untold) ↔ (told ≡ false)
  told_exactly = by told refl
    where
      by : (b : Bool) → told ≡ b → (end.stop ≡ Untold) ↔ (b ≡ false)
      by true e = (λ u. absurd (in_told rules (drop (position rules bytes) bytes) (sym (told_stands e) ∙ u)), λ f. absurd (let z : ◌≡◌ {A = ℕ} 0 1 = cc in omega arith))
      by false e = (λ u. refl, λ f. stop_listed ∙ rw e)

  pub end_exactly : (end.stop ≡ EndOfInput) ↔ ((told ≡ true) × (length bytes ≤ position rules bytes))
  end_exactly = by told refl
    where
      by : (b : Bool) → told ≡ b → (end.stop ≡ EndOfInput) ↔ ((b ≡ true) × (length bytes ≤ position rules bytes))
      by true e = (λ s. (refl, (end_of_input_lem rules bytes).0 (sym (told_stands e) ∙ s)), λ h. told_stands e ∙ (end_of_input_lem rules bytes).1 h.1)
      by false e =
          let none : end.stop ≡ Untold = stop_listed ∙ rw e in
          (λ s. absurd (end_untold (sym s ∙ none)), λ h. absurd (let z : ◌≡◌ {A = ℕ} 0 1 = cc in omega arith))
