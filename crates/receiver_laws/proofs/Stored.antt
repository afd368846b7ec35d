-- The rules that a receiver stores as columns, in whole blocks, are a valid table, and lead to the same tries as the one that it was started with.
-- Tries look at a table by the flags of words alone, and rows past the table have no flags. Assumes nothing.
use mathlib.Core.Path.{◌≡◌, refl, ap, ◌∙◌}
use mathlib.Core.List.{List, [], ◌∷◌}
use mathlib.Core.Bool.{true}
use Prim.Native.Nat.{ℕ, zero, suc, ◌+◌, ◌-◌, ◌*◌, ◌/◌, ◌≤◌}
use native.Mathlib.Omega.{arith}
use lib.ListN.{length}
use Rattle.rules.specs.Rules.{flags_of, valid_of}
use Rattle.rules.specs.Columns.{columns_of, blocks_of, rules_in}
use Rattle.rules.proofs.Laws.{valid_rows}
use Rattle.rules.proofs.ColumnRows.{Holds, blank_flags, blank_valid, columns_hold}
use Rattle.header_judge.specs.Version.{word_of}
use Rattle.header_judge.specs.Head.{head_of, head_with}
use Rattle.region_rows.specs.Rows.{top}
use Rattle.region_try.specs.Tries.{try_of, deepest, Inside, onward, records}
use Rattle.receiver.specs.Arrived.{closed, top_tries}

-- two tables under which each header is the same
module _ (rules others : List ℕ) (same : (bs : List ℕ) → head_of rules bs ≡ head_of others bs) where
  same_records : (box : Inside) (levels parent skip : ℕ) (bs : List ℕ) (offset n : ℕ)
      → records rules box levels parent skip bs offset n ≡ records others box levels parent skip bs offset n
  unfolding records
  same_records box levels parent skip [] offset n = refl
  same_records box levels parent (suc k) (b ∷ bs) offset n = same_records box levels parent k bs (offset + 1) n
  same_records box levels parent zero (b ∷ bs) offset n =
      λ i. onward box (b ∷ bs) n (try_of (deepest - levels) parent offset (length (b ∷ bs)) (same (b ∷ bs) i))
      (λ skip m. same_records box levels parent skip bs (offset + 1) m i)

  same_tries : (bs : List ℕ) (offset : ℕ) → top_tries rules bs offset ≡ top_tries others bs offset
  unfolding top_tries
  same_tries bs offset = same_records closed deepest top 0 bs offset 0

-- the rules in the columns of a table, in whole blocks of eight rows
abbrev pub stored_rules : List ℕ → List ℕ
stored_rules rules = rules_in (columns_of rules) (blocks_of (length rules / 3) * 8)

module _ (rules : List ℕ) (valid : valid_of rules ≡ true) where
  -- eight blocks at most
  pub stored_blocks : blocks_of (length rules / 3) ≤ 8
  stored_blocks = let whole = valid_rows rules valid in omega arith

  hold : Holds (columns_of rules) rules (length rules / 3)
  hold = let whole = valid_rows rules valid in columns_hold rules whole.0 whole.1

  rows_in_lem : length rules / 3 ≤ blocks_of (length rules / 3) * 8
  rows_in_lem = omega arith

  pub stored_valid : valid_of (stored_rules rules) ≡ true
  stored_valid =
      blank_valid (columns_of rules) (length rules / 3) (blocks_of (length rules / 3) * 8) rows_in_lem hold.blank (omega (arith, stored_blocks))
      (rw hold.held valid)

  stored_head : (bs : List ℕ) → head_of (stored_rules rules) bs ≡ head_of rules bs
  unfolding head_of
  stored_head bs =
      ap (head_with bs (word_of bs))
      (blank_flags (columns_of rules) (length rules / 3) (blocks_of (length rules / 3) * 8) rows_in_lem hold.blank (word_of bs)
      ∙ ap (λ (rs : List ℕ). flags_of rs (word_of bs)) hold.held)

  pub stored_tries : (bs : List ℕ) (offset : ℕ) → top_tries (stored_rules rules) bs offset ≡ top_tries rules bs offset
  stored_tries bs offset = same_tries (stored_rules rules) rules stored_head bs offset
