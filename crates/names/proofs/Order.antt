-- The table ascends: so each record type stands in it once, and the search for a type finds its only entry.
-- The order is one test that antt computes over the table; one law makes it the rule at each pair of entries. Assumes nothing.
use mathlib.Core.Path.{◌≡◌, refl}
use mathlib.Core.Bool.{Bool, true, ◌&&◌}
use mathlib.Core.List.{[], ◌∷◌}
use mathlib.Core.Logic.{⊎_elim}
use Prim.Native.Nat.{ℕ, zero, suc, ◌<◌}
use native.Mathlib.Nat.{le_of_suc-le-suc, not-suc-le-zero, eq-or-lt_of_le}
use native.Mathlib.Omega.{arith}
use lib.Dec.{ltb}
use lib.ListN.{length}
use borrow.Author.Tests.{ltb-true, ne_eqb, eq-eqb}
use Rattle.basics.proofs.Bools.{both}
use Rattle.basics.proofs.Orders.{le_or_lt}
use Rattle.names.specs.Names.{Table, named, unknown, type_at, text_at, lookup, text_of}

-- each type is above the one before it, and the first above `least`
ascending : ℕ → Table → Bool
ascending least [] = true
ascending least ((code, name) ∷ rest) = ltb least code && ascending code rest

-- the test of an entry and of the entries after it
parts : (least code : ℕ) (rest : Table) → (ltb least code && ascending code rest) ≡ true → (least < code) × (ascending code rest ≡ true)
parts least code rest rising = let (first, others) = both (ltb least code) (ascending code rest) rising in (ltb-true least code first, others)

-- every type is above `least`
above : (least : ℕ) (table : Table) → ascending least table ≡ true → (j : ℕ) → j < length table → least < type_at table j
unfolding ascending
above least [] rising j inside = absurd (not-suc-le-zero inside)
above least ((code, name) ∷ rest) rising zero inside = (parts least code rest rising).0
above least ((code, name) ∷ rest) rising (suc j) inside =
    let (first, others) = parts least code rest rising in
    let later = above code rest others j (le_of_suc-le-suc inside) in
    omega arith

-- the rule at each pair of entries
pairs : (least : ℕ) (table : Table) → ascending least table ≡ true → (i j : ℕ) → i < j → j < length table → type_at table i < type_at table j
unfolding ascending
pairs least [] rising i j order inside = absurd (not-suc-le-zero inside)
pairs least ((code, name) ∷ rest) rising i zero order inside = absurd (not-suc-le-zero order)
pairs least ((code, name) ∷ rest) rising zero (suc j) order inside = above code rest (parts least code rest rising).1 j (le_of_suc-le-suc inside)
pairs least ((code, name) ∷ rest) rising (suc i) (suc j) order inside =
    pairs code rest (parts least code rest rising).1 i j (le_of_suc-le-suc order) (le_of_suc-le-suc inside)

pub types_ascend : (i j : ℕ) → i < j → j < length named → type_at named i < type_at named j
unfolding named ascending
types_ascend = pairs 0 named refl

-- each type stands once
pub type_once : (i j : ℕ) → i < length named → j < length named → type_at named i ≡ type_at named j → i ≡ j
type_once i j i-inside j-inside same =
    ⊎_elim
    (λ le. ⊎_elim (λ equal. equal) (λ order. let less = types_ascend i j order j-inside in absurd (omega arith)) (eq-or-lt_of_le le))
    (λ order. let less = types_ascend j i order i-inside in absurd (omega arith))
    (le_or_lt i j)

-- the search for the type of an entry passes the entries before it
found : (least : ℕ) (table : Table) → ascending least table ≡ true → (i : ℕ) → i < length table → lookup (type_at table i) table ≡ text_at table i
unfolding ascending lookup
found least [] rising i inside = absurd (not-suc-le-zero inside)
found least ((code, name) ∷ rest) rising zero inside = rw (eq-eqb code code refl) refl
found least ((code, name) ∷ rest) rising (suc i) inside =
    let others = (parts least code rest rising).1 in
    let later = above code rest others i (le_of_suc-le-suc inside) in
    rw (ne_eqb (type_at rest i) code (λ same. omega arith)) (found code rest others i (le_of_suc-le-suc inside))

-- the name of an entry's type is the entry's name
pub entry_found : (i : ℕ) → i < length named → text_of (type_at named i) ≡ text_at named i
unfolding text_of named ascending
entry_found = found 0 named refl

missing : (t : ℕ) (table : Table) → ((i : ℕ) → i < length table → t ≡ type_at table i → ⊥) → lookup t table ≡ unknown
unfolding lookup
missing t [] other = refl
missing t ((code, name) ∷ rest) other =
    rw (ne_eqb t code (other 0 (omega arith))) (missing t rest (λ i inside. other (suc i) (omega arith)))

-- a type of no entry is UNKNOWN
pub others_unknown : (t : ℕ) → ((i : ℕ) → i < length named → t ≡ type_at named i → ⊥) → text_of t ≡ unknown
unfolding text_of
others_unknown t = missing t named
