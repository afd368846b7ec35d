-- A rule table laid out by columns: 64 masks, 64 wanted numbers, 64 flags numbers.
use Rattle.std.specs.Prelude.{ℕ, zero, suc, ◌+◌, ◌/◌, ◌≤◌, ◌≡◌, List, [], ◌∷◌, get_or, set, replicate}
use Rattle.rules.specs.Rules.{Rule, rules_of}

-- columns with a row's numbers in its place
abbrev pub with_row : List ℕ → ℕ → Rule → List ℕ
with_row t at r = set (set (set t at r.mask) (at + 64) r.wanted) (at + 128) r.flags

-- with those of several rows, from one on
unfoldable pub with_rows_from : List ℕ → ℕ → List Rule → List ℕ
with_rows_from t at [] = t
with_rows_from t at (r ∷ rs) = with_rows_from (with_row t at r) (at + 1) rs

-- the columns of a table; zeros stand past its rows
abbrev pub columns_of : List ℕ → List ℕ
columns_of rules = with_rows_from (replicate 192 0) 0 (rules_of rules)

-- some of its rows, from one on, as a rule table
unfoldable pub rules_from : List ℕ → ℕ → ℕ → List ℕ
rules_from t at zero = []
rules_from t at (suc n) = get_or t at 0 ∷ get_or t (at + 64) 0 ∷ get_or t (at + 128) 0 ∷ rules_from t (at + 1) n

-- its first rows
abbrev pub rules_in : List ℕ → ℕ → List ℕ
rules_in t n = rules_from t 0 n

-- the blocks of eight rows that some rows need
abbrev pub blocks_of : ℕ → ℕ
blocks_of rows = (rows + 7) / 8

-- no flag stands past its first rows
abbrev pub Blank : List ℕ → ℕ → Type 0
Blank t n = (row : ℕ) → n ≤ row → get_or t (row + 128) 0 ≡ 0
