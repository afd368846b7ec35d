-- The bounds that a walk of some rules and a table starts with are sound, and the rules are read back from their columns.
-- By what a valid table's columns hold. Assumes nothing.
use mathlib.Core.Path.{◌≡◌}
use mathlib.Core.List.{List}
use mathlib.Core.Bool.{true}
use Prim.Native.Nat.{ℕ, ◌*◌, ◌/◌, ◌≤◌, ◌<◌, ◌^◌, min}
use native.Mathlib.Omega.{arith}
use native.Mathlib.Nat.{div-mul-le_self}
use lib.ListN.{length}
use Rattle.rules.specs.Rules.{valid_of}
use Rattle.rules.specs.Columns.{columns_of, rules_in, Blank}
use Rattle.rules.proofs.Laws.{valid_rows}
use Rattle.rules.proofs.ColumnRows.{Holds, columns_hold}
use Rattle.region_rows.specs.Rows.{width, capacity, most_rows}
use Rattle.region_walk.specs.declared.bounds.Bounds.{Bounds}

-- each number fits its type, the rows fit in the lent table, and the rule table in its columns, where no flag stands past it
pub record Sound (laid_out : List ℕ) (rule_rows : ℕ) (b : Bounds) (spans : List ℕ) : Type 0 where
  pub limit : b.limit < 2 ^ 64
  pub room : b.room < 2 ^ 32
  pub rows : b.room * width ≤ length spans
  pub columns : rule_rows ≤ 64
  pub blank : Blank laid_out rule_rows

module _ (rules : List ℕ) (limit : ℕ) (t : List ℕ) (valid : valid_of rules ≡ true) where
  held : Holds (columns_of rules) rules (length rules / 3)
  held = let rows = valid_rows rules valid in columns_hold rules rows.0 rows.1

  pub start_table : rules_in (columns_of rules) (length rules / 3) ≡ rules
  start_table = held.held

  pub start_sound : limit < 2 ^ 64 → (b : Bounds) → b.limit ≡ limit → b.room ≡ min (capacity t) most_rows → Sound (columns_of rules) (length rules / 3) b t
  start_sound small b p q =
      let rows = valid_rows rules valid in
      record {
        limit = rw p small;
        room = omega arith;
        rows = rw q (omega (arith, div-mul-le_self (length t) width));
        columns = omega (arith, rows.0, rows.1);
        blank = held.blank;
      }
