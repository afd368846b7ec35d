-- What a receiver is after some bytes (document 02, C-11).
use Rattle.std.specs.Prelude.{ℕ, ◌/◌, ◌≡◌, List, length, take}
use Rattle.rules.specs.Columns.{columns_of, blocks_of}
use Rattle.header_judge.specs.Version.{bit}
use Rattle.receiver.specs.Waiting.{Waiting, unwalked, walked_on}
use Rattle.receiver.specs.Calls.{most_kept, in_use, state_of}
use Rattle.receiver.specs.declared.Receiver.{Receiver}

-- the walk after some bytes
abbrev pub after : List ℕ → List ℕ → Waiting
after rules bytes = walked_on rules (unwalked bytes)

-- the receiver stands where that walk does, under those rules, and keeps the first of the bytes that have come from there on
pub record Stands (rules bytes : List ℕ) (r : Receiver) : Type 0 where
  pub state : r.state
      ≡ state_of (length bytes) (after rules bytes).offset (after rules bytes).rows (blocks_of (length rules / 3)) (bit (after rules bytes).whole) in_use
  pub columns : r.rules ≡ columns_of rules
  pub kept : take (length (after rules bytes).bytes) r.kept ≡ take most_kept (after rules bytes).bytes
  pub room : length r.kept ≡ most_kept
