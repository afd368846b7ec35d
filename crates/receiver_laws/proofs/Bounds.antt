-- A walk past some records of bytes has gone at most 524,280 bytes for each.
-- By induction over the records. Assumes nothing.
use mathlib.Core.Path.{◌≡◌, ap}
use mathlib.Core.List.{List}
use Prim.Native.Nat.{ℕ, ◌+◌, ◌*◌, ◌≤◌}
use native.Mathlib.Omega.{arith}
use lib.ListN.{length}
use lib.Seq.{get_or-drop}
use Rattle.rules.specs.Rules.{flags_of}
use Rattle.header_judge.specs.Version.{word_of}
use Rattle.header_judge.specs.Head.{declared_of}
use Rattle.header_judge.specs.declared.Summary.{Summary}
use Rattle.header_judge.proofs.Heads.{record_told}
use Rattle.header_judge.proofs.Sizes.{declared_most}
use Rattle.region_rows.specs.declared.Span.{Span}
use Rattle.receiver.specs.Arrived.{arrived, extent}
use Rattle.receiver.proofs.Arrived.{Complete, top_whence, arrived_hit, by_arrived}
use Rattle.receiver_laws.specs.Received.{Bytes}

module _ (rules : List ℕ) where
  -- a record of bytes is not longer
  record_most : (bytes : List ℕ) (offset : ℕ) (r : Span) → Bytes bytes → Complete rules bytes offset r → r.declared ≤ 524280
  record_most bytes offset r small c =
      let told = record_told rules bytes (top_whence rules bytes offset r c.is).is in
      let same : r.declared ≡ declared_of bytes (flags_of rules (word_of bytes)) = ap (λ (s : Summary). s.declared) told.is in
      rw same (declared_most bytes small (flags_of rules (word_of bytes)))

  pub extent_most : (bytes : List ℕ) (offset : ℕ) → Bytes bytes → extent (arrived rules bytes offset) ≤ length (arrived rules bytes offset) * 524280
  unfolding extent
  extent_most = by_arrived rules (λ bytes offset. Bytes bytes → extent (arrived rules bytes offset) ≤ length (arrived rules bytes offset) * 524280)
      (λ bytes offset e small. rw e (omega arith))
      (λ bytes offset r c known small.
      let most = record_most bytes offset r small c in
      let after = known (λ k. rw (get_or-drop r.declared bytes k 0) (small (r.declared + k))) in
      rw (arrived_hit rules bytes offset r c) (omega arith))
