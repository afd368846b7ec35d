-- The header by its parts: what it is, from its word and its size.
-- By the tests of the definition, in their order. Assumes nothing.
use mathlib.Core.Path.{◌≡◌, refl, sym, ap, ◌∙◌}
use mathlib.Core.Logic.{◌⊎◌, ⊎_elim}
use mathlib.Core.Bool.{Bool, true, false, cond}
use mathlib.Core.List.{List}
use Prim.Native.Nat.{ℕ, zero, suc, ◌<◌}
use native.Mathlib.Omega.{arith}
use lib.Dec.{eqb}
use borrow.Author.Tests.{eq-eqb, ne_eqb, eqb-false}
use Rattle.std.proofs.Common.{Result, Ok, Err}
use Rattle.rules.specs.Rules.{flags_of}
use Rattle.header_judge.specs.Version.{no_word, word_of, ending_of}
use Rattle.header_judge.specs.Head.{size_of, declared_of, summary_of, Complete, Head, head_sized, head_with, head_of, declared_by}
use Rattle.header_judge.specs.Steps.{Known}
use Rattle.header_judge.specs.declared.Summary.{Summary}
use Rattle.header_judge.specs.declared.NoRecord.{NoRecord}
use Rattle.header_judge.specs.declared.NoRecord.TheVariants.{Ended}
use Rattle.header_judge.proofs.Sizes.{complete}

module _ (bs : List ℕ) (word flags : ℕ) where
  pub head_ended : word ≡ no_word → head_with bs word flags ≡ Err (Ended (ending_of bs))
  unfolding head_with
  head_ended e = rw (eq-eqb word no_word e)

  pub head_none : (word ≡ no_word → ⊥) → {why : NoRecord} → size_of bs word flags ≡ Err why → head_with bs word flags ≡ Err why
  unfolding head_with
  head_none f e = rw (ne_eqb word no_word f, e)

  pub head_record : (word ≡ no_word → ⊥) → Complete bs word flags → head_with bs word flags ≡ Ok (summary_of bs word flags)
  unfolding head_with
  head_record f h = rw (ne_eqb word no_word f, h)

  -- ---- the bytes that are declared

  pub declared_ended : word ≡ no_word → 0 ≡ declared_by (head_with bs word flags)
  unfolding declared_by
  declared_ended e = sym (ap declared_by (head_ended e))

  module _ (there : word ≡ no_word → ⊥) where
    pub declared_none : {why : NoRecord} → size_of bs word flags ≡ Err why → 0 ≡ declared_by (head_with bs word flags)
    unfolding declared_by
    declared_none e = sym (ap declared_by (head_none there e))

    pub declared_record : Complete bs word flags → declared_of bs flags ≡ declared_by (head_with bs word flags)
    unfolding declared_by
    declared_record h = sym (ap declared_by (head_record there h))

  -- where some are, the header is there
  module _ (some : 0 < declared_by (head_with bs word flags)) where
    pub word_there : word ≡ no_word → ⊥
    word_there e = let none : 0 ≡ declared_by (head_with bs word flags) = declared_ended e in omega arith

    pub header_there : Complete bs word flags
    header_there = by (size_of bs word flags) refl
      where
        by : (r : Result ℕ NoRecord) → size_of bs word flags ≡ r → Complete bs word flags
        by (Err why) e = let none : 0 ≡ declared_by (head_with bs word flags) = declared_none word_there e in absurd (omega arith)
        by (Ok size) e = complete bs word flags e

-- ---- a record that was found

pub record Told (rules bs : List ℕ) (s : Summary) : Type 0 where
  pub there : word_of bs ≡ no_word → ⊥
  pub is : s ≡ summary_of bs (word_of bs) (flags_of rules (word_of bs))
  pub found : Complete bs (word_of bs) (flags_of rules (word_of bs))

pub record_told : (rules bs : List ℕ) {s : Summary} → head_of rules bs ≡ Ok s → Told rules bs s
unfolding head_of head_with
record_told rules bs {s} h = by (eqb word no_word) refl (size_of bs word flags) refl h
  where
    word : ℕ
    word = word_of bs

    flags : ℕ
    flags = flags_of rules word

    by : (i : Bool) → eqb word no_word ≡ i → (r : Result ℕ NoRecord) → size_of bs word flags ≡ r
        → ◌≡◌ {A = Head} (cond i (Err (Ended (ending_of bs))) (head_sized bs word flags r)) (Ok s)
        → Told rules bs s
    by true i r e h = absurd (let o : ◌≡◌ {A = ℕ} 0 1 = cc in omega arith)
    by false i (Err why) e h = absurd (let o : ◌≡◌ {A = ℕ} 0 1 = cc in omega arith)
    by false i (Ok size) e h = record { there = eqb-false word no_word i; is = cc; found = complete bs word flags e }

-- the flags of a word that is none do not matter
pub head_known : (rules bs : List ℕ) (word flags : ℕ) → word ≡ word_of bs → Known rules word flags
    → head_with bs word flags ≡ head_of rules bs
unfolding head_of
head_known rules bs zero flags e f = head_ended bs 0 flags refl ∙ rw (← e) (sym (head_ended bs 0 (flags_of rules 0) refl))
head_known rules bs (suc n) flags e f =
    let k : flags ≡ flags_of rules (suc n) = f (λ z. omega arith) in
    rw (← e, k)

-- after a word is looked up, or found to be the last
pub remembered : (rules : List ℕ) (word last₀ known₀ last known : ℕ) → Known rules last₀ known₀
    → ((last ≡ word) × (known ≡ flags_of rules word)) ⊎ ((word ≡ last₀) × (last ≡ last₀) × (known ≡ known₀))
    → (last ≡ word) × Known rules word known
remembered rules word last₀ known₀ last known f came =
    ⊎_elim
    (λ q. (q.0, λ n. q.1))
    (λ q. (q.1 ∙ sym q.0, λ n. q.2 ∙ f (λ z. n (q.0 ∙ z)) ∙ ap (flags_of rules) (sym q.0)))
    came
