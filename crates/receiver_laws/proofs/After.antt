-- What a waiting walk and a further piece settle is what all the bytes settle, without what was settled before; and it then stands where they lead.
-- By what is all in of longer bytes, and the numbers of joined records. Assumes nothing.
use mathlib.Core.Path.{◌≡◌, refl, sym, ap, ◌∙◌}
use mathlib.Core.List.{List, [], ◌∷◌, ◌++◌}
use mathlib.Core.Bool.{Bool, ◌&&◌}
use Prim.Native.Nat.{ℕ, ◌+◌, ◌≤◌}
use native.Mathlib.Omega.{arith}
use lib.ListN.{length, length-append}
use lib.Seq.{drop-drop, drop-append-le}
use Rattle.region_rows.specs.declared.Span.{Span}
use Rattle.region_try.specs.Tries.{hit}
use Rattle.region_try.specs.Whole.{keeps_whole}
use Rattle.receiver.specs.Arrived.{extent, whole_with}
use Rattle.receiver.specs.Waiting.{Waiting, unwalked, past, joined, settled, walked_on}
use Rattle.receiver.proofs.Arrived.{extent_within, arrived_longer}
use Rattle.receiver_laws.specs.Stands.{after}

extent_append : (rs ss : List Span) → extent (rs ++ ss) ≡ extent rs + extent ss
unfolding extent
extent_append [] ss = omega arith
extent_append (r ∷ rs) ss = rw (extent_append rs ss) (omega arith)

whole_append : (whole : Bool) (rs ss : List Span) → whole_with whole (rs ++ ss) ≡ whole_with (whole_with whole rs) ss
unfolding whole_with
whole_append whole [] ss = refl
whole_append whole (r ∷ rs) ss = whole_append (whole && keeps_whole (hit r)) rs ss

-- past some records, and then past others
past_both : (w : Waiting) (piece : List ℕ) (rs ss : List Span) → extent rs ≤ length w.bytes
    → past (joined w piece) (rs ++ ss) ≡ past (joined (past w rs) piece) ss
past_both w piece rs ss h =
    let there : w.offset + (extent rs + extent ss) ≡ w.offset + extent rs + extent ss = omega arith in
    let count : w.rows + (length rs + length ss) ≡ w.rows + length rs + length ss = omega arith in
    rw (
      extent_append rs ss,
      whole_append w.whole rs ss,
      length-append rs ss,
      there,
      count,
      ← drop-drop (extent ss) (extent rs) (w.bytes ++ piece),
      drop-append-le (extent rs) w.bytes piece h,
    )

module _ (rules : List ℕ) where
  pub settled_more : (w : Waiting) (piece : List ℕ)
      → settled rules (joined w piece) ≡ settled rules w ++ settled rules (joined (walked_on rules w) piece)
  settled_more w piece = arrived_longer rules piece w.bytes w.offset

  pub walked_more : (w : Waiting) (piece : List ℕ) → walked_on rules (joined (walked_on rules w) piece) ≡ walked_on rules (joined w piece)
  walked_more w piece =
      sym (ap (past (joined w piece)) (settled_more w piece)
      ∙ past_both w piece (settled rules w) (settled rules (joined (walked_on rules w) piece)) (extent_within rules w.bytes w.offset))

  -- after some bytes and a piece
  pub after_piece : (bytes piece : List ℕ) → walked_on rules (joined (after rules bytes) piece) ≡ after rules (bytes ++ piece)
  after_piece bytes piece = walked_more (unwalked bytes) piece

  pub settled_piece : (bytes piece : List ℕ)
      → settled rules (unwalked (bytes ++ piece)) ≡ settled rules (unwalked bytes) ++ settled rules (joined (after rules bytes) piece)
  settled_piece bytes piece = settled_more (unwalked bytes) piece
