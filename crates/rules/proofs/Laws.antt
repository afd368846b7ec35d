-- What others need of a table and a word's flags: a valid table has whole rows and at most 192 numbers, its flags are at most 15; a flag that no row has, no word has; a row that does not apply changes nothing, and one that is looked at gives its flags or none.
-- By induction over the rows, from the bits of a union. Assumes nothing.
use mathlib.Core.Path.{◌≡◌, refl, sym, ap, ◌∙◌}
use mathlib.Core.List.{List, [], ◌∷◌, ◌++◌, map}
use mathlib.Core.Bool.{Bool, true, false, cond, not, ◌&&◌}
use Prim.Native.Nat.{ℕ, ◌/◌, ◌%◌, ◌^◌, ◌≤◌, ◌<◌, max}
use native.Mathlib.Nat.{zero-div}
use native.Mathlib.Omega.{arith}
use lib.Bits.{bit_or, or_zero_r, or_lt, or_shr, or_step}
use lib.Dec.{eqb, leb}
use lib.ListN.{length}
use borrow.Author.Tests.{eqb-true, eqb-false, ne_eqb, leb-true}
use Rattle.std.specs.List.{fold, list_all}
use Rattle.basics.proofs.Bools.{both}
use Rattle.basics.specs.Bits.{has}
use Rattle.rules.specs.Rules.{Rule, row, applies, with_rule, rules_of, with_rules, flags_of, flags_small, valid_of, none_has}

-- ---- a valid table

valid_parts : (rules : List ℕ) → valid_of rules ≡ true → (length rules % 3 ≡ 0) × (length rules / 3 ≤ 64) × (flags_small (rules_of rules) ≡ true)
unfolding valid_of
valid_parts rules e =
    let few = leb (length rules / 3) 64 in
    let small = flags_small (rules_of rules) in
    let p = both (eqb (length rules % 3) 0) (few && small) e in
    let q = both few small p.1 in
    (eqb-true (length rules % 3) 0 p.0, leb-true (length rules / 3) 64 q.0, q.1)

pub valid_rows : (rules : List ℕ) → valid_of rules ≡ true → (length rules % 3 ≡ 0) × (length rules ≤ 192)
valid_rows rules e = let q = valid_parts rules e in (q.0, omega arith)

-- each row's flags number is looked at
pub each_small : (rows : List (List ℕ)) → list_all (λ numbers. leb (row numbers).flags 15) rows ≡ flags_small (map row rows)
unfolding flags_small
each_small [] = refl
each_small (r ∷ rows) = ap (λ (t : Bool). leb (row r).flags 15 && t) (each_small rows)

-- ---- rows, and those after them

pub rules_both : (word all : ℕ) (rs ts : List Rule) → with_rules word all (rs ++ ts) ≡ with_rules word (with_rules word all rs) ts
unfolding with_rules
rules_both word all [] ts = refl
rules_both word all (r ∷ rs) ts = rules_both word (with_rule word all r) rs ts

pub small_both : (rs ts : List Rule) → flags_small rs ≡ true → flags_small ts ≡ true → flags_small (rs ++ ts) ≡ true
unfolding flags_small
small_both [] ts h g = g
small_both (r ∷ rs) ts h g = let q = both (leb r.flags 15) (flags_small rs) h in rw q.0 (small_both rs ts q.1 g)

-- ---- at most 15

pick_lt : (t : Bool) (a b : ℕ) → a < 2 ^ 4 → b < 2 ^ 4 → cond t (bit_or a b) a < 2 ^ 4
pick_lt true a b h g = or_lt 4 a b h g
pick_lt false a b h g = h

rows_lt : (word all : ℕ) (rs : List Rule) → all < 2 ^ 4 → flags_small rs ≡ true → with_rules word all rs < 2 ^ 4
unfolding with_rules flags_small
rows_lt word all [] h e = h
rows_lt word all (r ∷ rs) h e =
    let q = both (leb r.flags 15) (flags_small rs) e in
    let small : r.flags ≤ 15 = leb-true r.flags 15 q.0 in
    rows_lt word (with_rule word all r) rs (pick_lt (applies word r) all r.flags h (omega arith)) q.1

pub flags_le : (rules : List ℕ) (word : ℕ) → valid_of rules ≡ true → flags_of rules word ≤ 15
unfolding flags_of
flags_le rules word e =
    let h : with_rules word 0 (rules_of rules) < 2 ^ 4 = rows_lt word 0 (rules_of rules) (omega arith) (valid_parts rules e).2 in
    omega arith

-- ---- a flag that no row has

or_bit : (a b k : ℕ) → bit_or a b / 2 ^ k % 2 ≡ max (a / 2 ^ k % 2) (b / 2 ^ k % 2)
or_bit a b k =
    ap (λ (n : ℕ). n % 2) (or_shr a b k ∙ or_step (a / 2 ^ k) (b / 2 ^ k))
    ∙ omega arith

or_lacks : (a b k : ℕ) → has a (2 ^ k) ≡ false → has b (2 ^ k) ≡ false → has (bit_or a b) (2 ^ k) ≡ false
or_lacks a b k h g = ne_eqb (bit_or a b / 2 ^ k % 2) 1 (λ e. let p = eqb-false (a / 2 ^ k % 2) 1 h in let q = eqb-false (b / 2 ^ k % 2) 1 g in omega (arith, or_bit a b k))

pick_lacks : (t : Bool) (a b k : ℕ) → has a (2 ^ k) ≡ false → has b (2 ^ k) ≡ false → has (cond t (bit_or a b) a) (2 ^ k) ≡ false
pick_lacks true a b k h g = or_lacks a b k h g
pick_lacks false a b k h g = h

no : (b : Bool) → not b ≡ true → b ≡ false
no true e = sym e
no false e = refl

rows_lack : (word all k : ℕ) (rs : List Rule) → has all (2 ^ k) ≡ false → none_has (2 ^ k) rs ≡ true → has (with_rules word all rs) (2 ^ k) ≡ false
unfolding with_rules none_has
rows_lack word all k [] h e = h
rows_lack word all k (r ∷ rs) h e =
    let q = both (not (has r.flags (2 ^ k))) (none_has (2 ^ k) rs) e in
    rows_lack word (with_rule word all r) k rs (pick_lacks (applies word r) all r.flags k h (no (has r.flags (2 ^ k)) q.0)) q.1

pub flags_lack : (rules : List ℕ) (word k : ℕ) → none_has (2 ^ k) (rules_of rules) ≡ true → has (flags_of rules word) (2 ^ k) ≡ false
unfolding flags_of
flags_lack rules word k e = rows_lack word 0 k (rules_of rules) (ne_eqb (0 / 2 ^ k % 2) 1 (λ z. omega (arith, zero-div (2 ^ k)))) e

-- ---- a row that does not apply

pub rule_passed : (word all : ℕ) (rs ts : List Rule) (r : Rule) → applies word r ≡ false → with_rules word all (rs ++ (r ∷ ts)) ≡ with_rules word all (rs ++ ts)
unfolding with_rules
rule_passed word all [] ts r e = ap (λ (t : Bool). with_rules word (cond t (bit_or all r.flags) all) ts) e
rule_passed word all (q ∷ rs) ts r e = rule_passed word (with_rule word all q) rs ts r e

-- ---- a row that is looked at

-- a union with a row's flags, or with none
united : (t : Bool) (all flags : ℕ) → bit_or all (cond t flags 0) ≡ cond t (bit_or all flags) all
united true all flags = refl
united false all flags = or_zero_r all

-- a row without flags adds none
pub row_adds_none : (t : Bool) (all : ℕ) → cond t (bit_or all 0) all ≡ all
row_adds_none true all = or_zero_r all
row_adds_none false all = refl

-- what is added to some flags for a row
abbrev pub looked_at : ℕ → ℕ → Rule → ℕ
looked_at word all r = bit_or all (cond (applies word r) r.flags 0)

-- each row is looked at in turn
pub fold_looked : (word all : ℕ) (rows : List (List ℕ)) → fold (λ all numbers. looked_at word all (row numbers)) all rows ≡ with_rules word all (map row rows)
unfolding with_rules
fold_looked word all [] = refl
fold_looked word all (r ∷ rows) = ap (λ (f : ℕ). fold (λ all numbers. looked_at word all (row numbers)) f rows) (united (applies word (row r)) all (row r).flags) ∙ fold_looked word (with_rule word all (row r)) rows

-- the first of the rules that are left, and those after it
pub looked : (word all given : ℕ) {r : Rule} {left after : List Rule} → left ≡ r ∷ after → given ≡ cond (applies word r) r.flags 0
    → with_rules word (bit_or all given) after ≡ with_rules word all left
unfolding with_rules
looked word all given {r} {left} {after} is e =
    ap (λ (f : ℕ). with_rules word f after) (ap (bit_or all) e ∙ united (applies word r) all r.flags) ∙ rw is

pub none_left : (word all : ℕ) {left : List Rule} → left ≡ [] → with_rules word all left ≡ all
unfolding with_rules
none_left word all is = rw is
