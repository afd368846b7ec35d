-- Two walks that wait at one place, having bytes that are alike, settle the same with a piece, wait at one place again, and end the same.
-- By what bytes settle that are alike. Assumes nothing.
use mathlib.Core.Path.{◌≡◌, ap, ◌∙◌}
use mathlib.Core.List.{List, []}
use Prim.Native.Nat.{ℕ}
use Rattle.receiver.specs.Arrived.{all_in}
use Rattle.receiver.specs.Waiting.{Waiting, joined, settled, walked_on, last_tries, last_listing}
use Rattle.receiver_laws.proofs.Alike.{Alike, alike_last, alike_settles}

pub record SameWait (v w : Waiting) : Type 0 where
  pub offset : v.offset ≡ w.offset
  pub bytes : Alike v.bytes w.bytes
  pub rows : v.rows ≡ w.rows
  pub whole : v.whole ≡ w.whole

module _ (rules : List ℕ) (v w : Waiting) (same : SameWait v w) (waits : settled rules w ≡ []) where
  pub same_settled : (piece : List ℕ) → settled rules (joined v piece) ≡ settled rules (joined w piece)
  same_settled piece = rw same.offset (alike_settles rules v.bytes w.bytes piece w.offset same.bytes waits).0

  pub same_walked : (piece : List ℕ) → SameWait (walked_on rules (joined v piece)) (walked_on rules (joined w piece))
  same_walked piece =
      let rows = same_settled piece in
      record {
        offset = rw (rows, same.offset);
        bytes = rw same.offset (alike_settles rules v.bytes w.bytes piece w.offset same.bytes waits).1;
        rows = rw (rows, same.rows);
        whole = rw (rows, same.whole);
      }

  pub same_tries : last_tries rules v ≡ last_tries rules w
  same_tries = rw same.offset (alike_last rules v.bytes w.bytes w.offset same.bytes waits)

  pub same_waits : settled rules v ≡ []
  same_waits = ap all_in same_tries ∙ waits

  pub same_listing : last_listing rules v ≡ last_listing rules w
  unfolding last_listing
  same_listing = rw (same_tries, same.rows, same.whole)
