-- A decode is made of what one try finds: where it is done, there is a record of which all is known.
-- Case for case. Assumes nothing.
use mathlib.Core.Path.{◌≡◌, refl, sym, ap, ◌∙◌}
use mathlib.Core.Bool.{Bool, true, false, cond}
use mathlib.Core.List.{List}
use Prim.Native.Nat.{ℕ, ◌≤◌, ◌<◌}
use native.Mathlib.Omega.{arith}
use lib.Dec.{eqb, ltb}
use lib.ListN.{length}
use borrow.Author.Tests.{eqb-false}
use Rattle.std.proofs.Common.{Ok, Err}
use Rattle.std.specs.Prelude.{Result, Ok, Err}
use Rattle.le.specs.Le.{le}
use Rattle.rules.specs.Rules.{valid_of, flags_of}
use Rattle.header_judge.specs.Version.{no_word, end_mark, word_of}
use Rattle.header_judge.specs.Head.{no_size, layout_size, layout_of, count_of, size_for, size_of, summary_of, head_of, Head}
use Rattle.header_judge.specs.declared.Summary.{Summary}
use Rattle.header_judge.proofs.Heads.{record_told}
use Rattle.header_judge.proofs.Sizes.{size_found, complete}
use Rattle.header.specs.Header.{judged_from, judged_of, decoded_from, decoded_of}
use Rattle.header.specs.declared.Refusal.{Refusal}
use Rattle.header.specs.declared.Refusal.TheVariants.{BadRules}
use Rattle.header.specs.declared.Decoded.{Decoded}
use Rattle.header_laws.specs.Agree.{decoded_record}

-- a version word that is there is that of the bytes, and no end mark
word_read : (bs : List ℕ) → (word_of bs ≡ no_word → ⊥) → (word_of bs ≡ le 4 bs 0) × (word_of bs ≡ end_mark → ⊥)
unfolding word_of
word_read bs there = by (ltb (length bs) 4) (eqb (le 4 bs 0) end_mark) refl there
  where
    by : (short marked : Bool) → eqb (le 4 bs 0) end_mark ≡ marked → (cond short no_word (cond marked no_word (le 4 bs 0)) ≡ no_word → ⊥)
        → (cond short no_word (cond marked no_word (le 4 bs 0)) ≡ le 4 bs 0) × (cond short no_word (cond marked no_word (le 4 bs 0)) ≡ end_mark → ⊥)
    by true marked e f = absurd (f refl)
    by false true e f = absurd (f refl)
    by false false e f = (refl, eqb-false (le 4 bs 0) end_mark e)

module _ (rules bs : List ℕ) where
  module _ (valid : valid_of rules ≡ true) where
    pub decoded_from_lem : decoded_of rules bs ≡ decoded_from bs (judged_from (head_of rules bs))
    unfolding decoded_of judged_of
    decoded_from_lem = rw valid

    pub decoded_of_record : {s : Summary} → head_of rules bs ≡ Ok s → decoded_of rules bs ≡ Ok (decoded_record bs s)
    unfolding judged_from
    decoded_of_record e = decoded_from_lem ∙ ap (λ (h : Head). decoded_from bs (judged_from h)) e

  done_valid : {d : Decoded} → decoded_of rules bs ≡ Ok d → valid_of rules ≡ true
  unfolding decoded_of judged_of
  done_valid {d} done = by (valid_of rules) done
    where
      by : (b : Bool) → decoded_from bs (cond b (judged_from (head_of rules bs)) (Err BadRules)) ≡ Ok d → b ≡ true
      by true e = refl
      by false e = cc

  abbrev word : ℕ
  word = word_of bs

  abbrev flags : ℕ
  flags = flags_of rules word

  -- what the header of the bytes says of its record
  abbrev here : Summary
  here = summary_of bs word flags

  -- what is known where a decode is done
  pub record Known : Type 0 where
    pub valid : valid_of rules ≡ true
    pub there : word ≡ no_word → ⊥
    pub word_is : word ≡ le 4 bs 0
    pub unmarked : word ≡ end_mark → ⊥
    pub size : size_of bs word flags ≡ Ok (size_for (layout_of word flags) (count_of bs))
    pub some : 0 < size_for (layout_of word flags) (count_of bs)
    pub room : size_for (layout_of word flags) (count_of bs) ≤ length bs
    pub head : head_of rules bs ≡ Ok here
    pub decoded : decoded_of rules bs ≡ Ok (decoded_record bs here)

  pub done_known : {d : Decoded} → decoded_of rules bs ≡ Ok d → Known
  unfolding judged_from
  done_known {d} done = by (head_of rules bs) refl (sym (decoded_from_lem (done_valid done)) ∙ done)
    where
      by : (h : Head) → head_of rules bs ≡ h → decoded_from bs (judged_from h) ≡ Ok d → Known
      by (Err why) e f = absurd (let o : ◌≡◌ {A = ℕ} 0 1 = cc in omega arith)
      by (Ok s) e _ =
          let told = record_told rules bs e in
          let there = told.there in
          let size = size_found bs word flags told.found in
          let some : layout_size bs word flags ≡ no_size → ⊥ = size.some in
          let head = e ∙ ap Ok told.is in
          record {
            valid = done_valid done;
            there = there;
            word_is = (word_read bs there).0;
            unmarked = (word_read bs there).1;
            size = complete bs word flags told.found;
            some = omega arith;
            room = size.within;
            head = head;
            decoded = decoded_of_record (done_valid done) head;
          }

  -- what is decoded is of that record
  pub known_decoded : Known → {d : Decoded} → decoded_of rules bs ≡ Ok d → d ≡ decoded_record bs here
  known_decoded found {d} done = let e : ◌≡◌ {A = Result Decoded Refusal} (Ok d) (Ok (decoded_record bs here)) = sym done ∙ found.decoded in cc
