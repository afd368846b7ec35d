-- A piece after bytes of which none are all in: the record that ends in it, and how many records it completes.
-- Past 536 bytes the header is decided, so that all records but the first lie in the piece. Assumes nothing.
use mathlib.Core.Path.{◌≡◌, sym}
use mathlib.Core.List.{List, [], ◌++◌}
use mathlib.Core.Logic.{⊎_elim}
use Prim.Native.Nat.{ℕ, ◌+◌, ◌≤◌, ◌<◌}
use native.Mathlib.Omega.{arith}
use lib.ListN.{length, drop, length-append, length-drop}
use Rattle.basics.proofs.Orders.{le_or_lt}
use Rattle.header_judge.proofs.Longer.{head_decided}
use Rattle.region_rows.specs.declared.Span.{Span}
use Rattle.receiver.specs.Arrived.{arrived}
use Rattle.receiver.specs.Calls.{most_kept, most_piece, least_room}
use Rattle.receiver.proofs.Arrived.{Complete, waits_none, complete_alike, arrived_hit, begins, extent_within, rows_within}

module _ (rules : List ℕ) where
  -- where none of more than 536 bytes is all in, the record that begins there ends in the piece
  pub ends_in_piece : (bs piece : List ℕ) (offset : ℕ) (r : Span) → most_kept < length bs → arrived rules bs offset ≡ [] → Complete rules (bs ++ piece) offset r
      → length bs < r.declared
  ends_in_piece bs piece offset r many waits c = ⊎_elim
      (λ (enough : r.declared ≤ length bs).
      absurd (waits_none rules bs offset r waits (complete_alike rules (bs ++ piece) bs offset r (sym (head_decided bs piece rules (omega arith))) c enough)))
      (λ (short : length bs < r.declared). short)
      (le_or_lt r.declared (length bs))

  rows_bytes : (bytes : List ℕ) (offset : ℕ) → length (arrived rules bytes offset) ≤ length bytes
  rows_bytes bytes offset = omega (arith, rows_within rules bytes offset, extent_within rules bytes offset)

  pub few_complete : (bs piece : List ℕ) (offset : ℕ) → arrived rules bs offset ≡ [] → length piece ≤ most_piece
      → length (arrived rules (bs ++ piece) offset) ≤ least_room
  few_complete bs piece offset waits small = ⊎_elim
      (λ (few : length bs ≤ most_kept). omega (arith, rows_bytes (bs ++ piece) offset, length-append bs piece))
      (λ (many : most_kept < length bs). ⊎_elim
      (λ e. rw e (omega arith))
      (λ found.
      let r = found.0 in
      let c = found.1 in
      let short = ends_in_piece bs piece offset r many waits c in
      let after = rows_bytes (drop r.declared (bs ++ piece)) (offset + r.declared) in
      rw (arrived_hit rules (bs ++ piece) offset r c) (omega (arith, length-drop r.declared (bs ++ piece), length-append bs piece)))
      (begins rules (bs ++ piece) offset))
      (le_or_lt (length bs) most_kept)
