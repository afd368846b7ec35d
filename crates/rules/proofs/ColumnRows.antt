-- The rows of columns, as the code meets them: the first row and those after it, or none; when they are a valid table; rows without flags; a row stored after some others.
-- By induction over the rows; a store in one column touches no other. Assumes nothing.
use mathlib.Core.Path.{◌≡◌, refl, sym, ap, subst, ◌∙◌}
use mathlib.Core.Logic.{◌≢◌}
use mathlib.Core.Bool.{true}
use mathlib.Core.List.{List, [], ◌∷◌, ◌++◌, append_assoc, append-nil}
use Prim.Native.Nat.{ℕ, zero, suc, ◌+◌, ◌-◌, ◌*◌, ◌/◌, ◌%◌, ◌≤◌, ◌<◌}
use native.Mathlib.Nat.{zero-add, add-zero}
use native.Mathlib.Omega.{arith}
use lib.ListN.{length, get_or, set, replicate, length-set}
use lib.Seq.{get_or-set_same, get_or-set_other}
use borrow.Author.Tests.{eq-eqb, le-leb}
use Rattle.rules.specs.Rules.{Rule, rule, applies, with_rule, rules_of, with_rules, flags_of, flags_small, valid_of}
use Rattle.rules.specs.Columns.{with_row, with_rows_from, columns_of, rules_from, rules_in, Blank}
use Rattle.rules.proofs.Laws.{rules_both, small_both, row_adds_none}

-- ---- rows that are read

-- no row is left before the one at n
pub columns_end : (t : List ℕ) (at n : ℕ) → n ≤ at → rules_of (rules_from t at (n - at)) ≡ []
unfolding rules_of rules_from
columns_end t at n h = let none : n - at ≡ 0 = omega arith in rw none

-- a row, and those after it
pub columns_step : (t : List ℕ) (at n : ℕ) → at < n
    → rules_of (rules_from t at (n - at)) ≡ rule (get_or t at 0) (get_or t (at + 64) 0) (get_or t (at + 128) 0) ∷ rules_of (rules_from t (at + 1) (n - (at + 1)))
unfolding rules_of rules_from
columns_step t at n h = let more : n - at ≡ suc (n - (at + 1)) = omega arith in rw more

-- rows, and those after them
rows_both : (t : List ℕ) (at k m : ℕ) → rules_of (rules_from t at (k + m)) ≡ rules_of (rules_from t at k) ++ rules_of (rules_from t (at + k) m)
unfolding rules_of rules_from
rows_both t at zero m = rw (zero-add m, add-zero at)
rows_both t at (suc k) m =
    let more : suc k + m ≡ suc (k + m) = omega arith in
    let next : at + 1 + k ≡ at + suc k = omega arith in
    rw more (ap (λ (rs : List Rule). rule (get_or t at 0) (get_or t (at + 64) 0) (get_or t (at + 128) 0) ∷ rs) (rw next at (rows_both t (at + 1) k m)))

length_from : (t : List ℕ) (at n : ℕ) → length (rules_from t at n) ≡ n * 3
unfolding rules_from
length_from t at zero = refl
length_from t at (suc n) = rw (length_from t (at + 1) n) (omega arith)

-- whole rows, so that the flags numbers alone are to be judged
pub small_valid : (t : List ℕ) (n : ℕ) → n ≤ 64 → flags_small (rules_of (rules_in t n)) ≡ valid_of (rules_in t n)
unfolding valid_of
small_valid t n h = rw (length_from t 0 n, eq-eqb (n * 3 % 3) 0 (omega arith), le-leb (n * 3 / 3) 64 (omega arith))

-- ---- rows without flags

-- columns of zeros have none
pub zero_at : (n i : ℕ) → ◌≡◌ {A = ℕ} (get_or (replicate n 0) i 0) 0
zero_at zero i = refl
zero_at (suc n) zero = refl
zero_at (suc n) (suc i) = zero_at n i

-- they add none, and their flags numbers are small
blank_none : (t : List ℕ) (word all at m : ℕ) → Blank t at → with_rules word all (rules_of (rules_from t at m)) ≡ all
unfolding with_rules rules_of rules_from
blank_none t word all at zero blank = refl
blank_none t word all at (suc m) blank =
    let same : with_rule word all (rule (get_or t at 0) (get_or t (at + 64) 0) (get_or t (at + 128) 0)) ≡ all =
    rw (blank at (omega arith)) (row_adds_none (applies word (rule (get_or t at 0) (get_or t (at + 64) 0) 0)) all) in
    rw same (blank_none t word all (at + 1) m (λ row h. blank row (omega arith)))

blank_small : (t : List ℕ) (at m : ℕ) → Blank t at → flags_small (rules_of (rules_from t at m)) ≡ true
unfolding flags_small rules_of rules_from
blank_small t at zero blank = refl
blank_small t at (suc m) blank = rw (blank at (omega arith)) (blank_small t (at + 1) m (λ row h. blank row (omega arith)))

-- after some others
module _ (t : List ℕ) (rows end : ℕ) (h : rows ≤ end) (blank : Blank t rows) where
  apart : rules_of (rules_in t end) ≡ rules_of (rules_in t rows) ++ rules_of (rules_from t rows (end - rows))
  apart =
      let e : rows + (end - rows) ≡ end = omega arith in
      rw (e, zero-add rows) at (rows_both t 0 rows (end - rows))

  pub blank_flags : (word : ℕ) → flags_of (rules_in t end) word ≡ flags_of (rules_in t rows) word
  unfolding flags_of
  blank_flags word =
      ap (with_rules word 0) apart
      ∙ rules_both word 0 (rules_of (rules_in t rows)) (rules_of (rules_from t rows (end - rows)))
      ∙ blank_none t word (with_rules word 0 (rules_of (rules_in t rows))) rows (end - rows) blank

  pub blank_valid : end ≤ 64 → valid_of (rules_in t rows) ≡ true → valid_of (rules_in t end) ≡ true
  blank_valid g valid =
      sym (small_valid t end g)
      ∙ ap flags_small apart
      ∙ small_both (rules_of (rules_in t rows)) (rules_of (rules_from t rows (end - rows))) (small_valid t rows (omega arith) ∙ valid) (blank_small t rows (end - rows) blank)

-- ---- a row that is stored

pub from_none : (t : List ℕ) (at : ℕ) → rules_from t at 0 ≡ []
unfolding rules_from
from_none t at = refl

-- a row's numbers
abbrev row_at : List ℕ → ℕ → List ℕ
row_at t at = get_or t at 0 ∷ get_or t (at + 64) 0 ∷ get_or t (at + 128) 0 ∷ []

-- the last row, and those before it
from_last : (t : List ℕ) (at n : ℕ) → rules_from t at (suc n) ≡ rules_from t at n ++ row_at t (at + n)
unfolding rules_from
from_last t at zero = ap (row_at t) (sym (add-zero at))
from_last t at (suc n) =
    let e : at + 1 + n ≡ at + suc n = omega arith in
    ap (λ (rs : List ℕ). row_at t at ++ rs) (from_last t (at + 1) n)
    ∙ ap (λ (i : ℕ). row_at t at ++ (rules_from t (at + 1) n ++ row_at t i)) e

module _ (t : List ℕ) (at : ℕ) (r : Rule) where
  -- what stands elsewhere stays
  elsewhere : (i : ℕ) → i ≢ at → i ≢ at + 64 → i ≢ at + 128 → get_or (with_row t at r) i 0 ≡ get_or t i 0
  elsewhere i f g h =
      get_or-set_other (set (set t at r.mask) (at + 64) r.wanted) (at + 128) i r.flags 0 h
      ∙ get_or-set_other (set t at r.mask) (at + 64) i r.wanted 0 g
      ∙ get_or-set_other t at i r.mask 0 f

  module _ (h : at < 64) where
    -- the rows before it
    earlier : (i n : ℕ) → i + n ≤ at → rules_from (with_row t at r) i n ≡ rules_from t i n
    unfolding rules_from
    earlier i zero g = refl
    earlier i (suc n) g =
        let mask = elsewhere i (λ e. omega arith) (λ e. omega arith) (λ e. omega arith) in
        let wanted = elsewhere (i + 64) (λ e. omega arith) (λ e. omega arith) (λ e. omega arith) in
        let flags = elsewhere (i + 128) (λ e. omega arith) (λ e. omega arith) (λ e. omega arith) in
        rw (mask, wanted, flags, earlier (i + 1) n (omega arith))

    -- the row itself
    itself : length t ≡ 192 → row_at (with_row t at r) at ≡ r.mask ∷ r.wanted ∷ r.flags ∷ []
    itself l =
        let one : List ℕ = set t at r.mask in
        let two : List ℕ = set one (at + 64) r.wanted in
        let mask : get_or (with_row t at r) at 0 ≡ r.mask =
        get_or-set_other two (at + 128) at r.flags 0 (λ e. omega arith)
        ∙ get_or-set_other one (at + 64) at r.wanted 0 (λ e. omega arith)
        ∙ get_or-set_same t at r.mask 0 (omega arith) in
        let wanted : get_or (with_row t at r) (at + 64) 0 ≡ r.wanted =
        get_or-set_other two (at + 128) (at + 64) r.flags 0 (λ e. omega arith)
        ∙ get_or-set_same one (at + 64) r.wanted 0 (simp length-set (omega arith)) in
        let flags : get_or (with_row t at r) (at + 128) 0 ≡ r.flags = get_or-set_same two (at + 128) r.flags 0 (simp length-set (omega arith)) in
        rw (mask, wanted, flags)

    -- the flags past it
    past_blank : Blank t at → Blank (with_row t at r) (at + 1)
    past_blank blank row g = elsewhere (row + 128) (λ e. omega arith) (λ e. omega arith) (λ e. omega arith) ∙ blank row (omega arith)

    one_more : length t ≡ 192 → rules_from (with_row t at r) 0 (at + 1) ≡ rules_from t 0 at ++ (r.mask ∷ r.wanted ∷ r.flags ∷ [])
    one_more l =
        let n : at + 1 ≡ suc at = omega arith in
        rw n (from_last (with_row t at r) 0 at ∙ rw (zero-add at, itself l, earlier 0 at (omega arith)))

-- ---- several rows that are stored

pub rows_written : (t : List ℕ) (at : ℕ) {rs : List Rule} → rs ≡ [] → with_rows_from t at rs ≡ t
unfolding with_rows_from
rows_written t at e = ap (λ (rs : List Rule). with_rows_from t at rs) e

pub row_written : (t : List ℕ) (at : ℕ) {r : Rule} {rs rest : List Rule} → rs ≡ r ∷ rest → with_rows_from (with_row t at r) (at + 1) rest ≡ with_rows_from t at rs
unfolding with_rows_from
row_written t at e = sym (ap (λ (rs : List Rule). with_rows_from t at rs) e)

-- what columns hold whose first rows are known: the rows, and no flag past them
pub record Holds (t rules : List ℕ) (rows : ℕ) : Type 0 where
  pub long : length t ≡ 192
  pub held : rules_in t rows ≡ rules
  pub blank : Blank t rows

-- with rows more
holds_more : (t before : List ℕ) (at : ℕ) (rest : List ℕ) → length rest % 3 ≡ 0 → at + length rest / 3 ≤ 64 → Holds t before at
    → Holds (with_rows_from t at (rules_of rest)) (before ++ rest) (at + length rest / 3)
unfolding with_rows_from rules_of
holds_more t before at [] d h q = rw (add-zero at, append-nil before) q
holds_more t before at (_ ∷ []) d h q = absurd (omega arith)
holds_more t before at (_ ∷ _ ∷ []) d h q = absurd (omega arith)
holds_more t before at (a ∷ b ∷ c ∷ rest) d h q =
    let here : at < 64 = omega arith in
    let next : at + length (a ∷ b ∷ c ∷ rest) / 3 ≡ at + 1 + length rest / 3 = omega arith in
    let there = holds_more (with_row t at (rule a b c)) (before ++ (a ∷ b ∷ c ∷ [])) (at + 1) rest (omega arith) (omega arith) (record {
      long = simp length-set q.long;
      held = one_more t at (rule a b c) here q.long ∙ ap (λ (rs : List ℕ). rs ++ (a ∷ b ∷ c ∷ [])) q.held;
      blank = past_blank t at (rule a b c) here q.blank;
    }) in
    subst (λ (n : ℕ). Holds (with_rows_from t at (rule a b c ∷ rules_of rest)) (before ++ (a ∷ b ∷ c ∷ rest)) n) (sym next)
    (subst (λ (rs : List ℕ). Holds (with_rows_from t at (rule a b c ∷ rules_of rest)) rs (at + 1 + length rest / 3)) (append_assoc before (a ∷ b ∷ c ∷ []) rest) there)

-- a table of whole rows, at most 64 of them
pub columns_hold : (rules : List ℕ) → length rules % 3 ≡ 0 → length rules ≤ 192 → Holds (columns_of rules) rules (length rules / 3)
columns_hold rules d h =
    rw (zero-add (length rules / 3)) at (holds_more (replicate 192 0) [] 0 rules d (omega arith) (record { long = refl; held = from_none (replicate 192 0) 0; blank = λ row g. zero_at 192 (row + 128) }))
