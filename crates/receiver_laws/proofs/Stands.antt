-- A receiver that stands after some bytes waits where the walk does, under rules that lead to the same tries, and is usable.
-- What it stores is alike to what has come. Assumes nothing.
use mathlib.Core.Path.{◌≡◌, refl, ap, ◌∙◌}
use mathlib.Core.List.{List, [], ◌∷◌, ◌++◌, append-nil}
use mathlib.Core.Bool.{Bool, true, false, ◌||◌}
use mathlib.Core.Logic.{◌⊎◌, inl, inr}
use Prim.Native.Nat.{ℕ, ◌-◌, ◌*◌, ◌/◌, ◌≤◌, ◌<◌}
use native.Mathlib.Omega.{arith}
use native.Mathlib.Nat.{zero-add}
use lib.Dec.{eqb, leb, ltb}
use lib.ListN.{length, take, drop, replicate, length-append, length-take, length-drop, length-replicate, drop_of_length-le}
use lib.Seq.{take-take, take_at, take_all, take-append_seam}
use borrow.Author.Tests.{le-leb, lt-ltb}
use Rattle.answers.specs.Numbers.{most_bytes}
use Rattle.basics.proofs.Orders.{le_or_lt}
use Rattle.rules.specs.Rules.{valid_of}
use Rattle.rules.specs.Columns.{columns_of, blocks_of}
use Rattle.header_judge.specs.Version.{bit}
use Rattle.region_rows.specs.declared.Span.{Span}
use Rattle.receiver.specs.Arrived.{top_tries, arrived, whole_with}
use Rattle.receiver.specs.Waiting.{Waiting, settled}
use Rattle.receiver.specs.Calls.{most_kept, held_in, rules_at, waiting_of, in_bounds, sound, usable, state_at, kept_of}
use Rattle.receiver.specs.declared.State.{State}
use Rattle.receiver.specs.declared.Receiver.{Receiver}
use Rattle.receiver.proofs.Arrived.{rest_waits, extent_within, rows_within}
use Rattle.receiver_laws.specs.Stands.{after, Stands}
use Rattle.receiver_laws.specs.Received.{Bytes}
use Rattle.receiver_laws.proofs.Stored.{stored_tries, stored_blocks, stored_valid}
use Rattle.receiver_laws.proofs.Bounds.{extent_most}
use Rattle.receiver_laws.proofs.Waits.{SameWait, same_waits}

-- ---- the kept bytes

-- the first so many of some bytes
module _ (most : ℕ) (bs kept : List ℕ) (room : length kept ≡ most) where
  -- filled up with zeros, they are as long, and begin as those
  filled_up : take (length bs) kept ≡ take most bs
      → (length (take (length bs) kept ++ replicate (length bs - most) 0) ≡ length bs)
      × (take most (take (length bs) kept ++ replicate (length bs - most) 0) ≡ take most bs)
  filled_up e = (simp (length-append, length-take, length-replicate) (omega arith), rw e (by (le_or_lt (length bs) most)))
    where
      by : (length bs ≤ most) ⊎ (most < length bs) → take most (take most bs ++ replicate (length bs - most) 0) ≡ take most bs
      by (inl few) =
          let none : length bs - most ≡ 0 = omega arith in
          rw (none, append-nil (take most bs)) (take-take most most bs (omega arith))
      by (inr many) = take_at (take most bs) (replicate (length bs - most) 0) most (simp length-take (omega arith))

  -- stored over other bytes
  stored_over : (take (length bs) (take most bs ++ drop (length (take most bs)) kept) ≡ take most bs)
      × (length (take most bs ++ drop (length (take most bs)) kept) ≡ most)
  stored_over = (by (le_or_lt (length bs) most), long)
    where
      long : length (take most bs ++ drop (length (take most bs)) kept) ≡ most
      long = simp (length-append, length-drop, length-take) (omega arith)

      by : (length bs ≤ most) ⊎ (most < length bs) → take (length bs) (take most bs ++ drop (length (take most bs)) kept) ≡ take most bs
      by (inl few) = rw (take_all most bs few) (take-append_seam bs (drop (length bs) kept))
      by (inr many) =
          let end : length kept ≤ length (take most bs) = simp length-take (omega arith) in
          take_all (length bs) _ (omega (arith, long)) ∙ rw (drop_of_length-le kept end) (append-nil (take most bs))

-- ---- where a receiver stands

bit_back : (b : Bool) → eqb (bit b) 1 ≡ b
bit_back true = refl
bit_back false = refl

bit_small : (b : Bool) → leb (bit b) 1 ≡ true
bit_small true = refl
bit_small false = refl

-- without a record all is whole
none_spoils : (rs : List Span) → (ltb 0 (length rs) || eqb (bit (whole_with true rs)) 1) ≡ true
unfolding whole_with
none_spoils [] = refl
none_spoils (r ∷ rs) = rw (lt-ltb 0 (length (r ∷ rs)) (omega arith))

-- one that waits where the walk does, and has stored the first of what it waits with
pub stands_at_lem : (rules bytes : List ℕ) (s : State) (taken : ℕ) (w : Waiting) (columns kept : List ℕ) → SameWait w (after rules bytes) → taken ≡ length bytes
    → s.rule_blocks ≡ blocks_of (length rules / 3) → columns ≡ columns_of rules → length kept ≡ most_kept
    → Stands rules bytes (record { state = state_at s taken w; rules = columns; kept = kept_of w.bytes kept })
stands_at_lem rules bytes s taken w columns kept same all blocks is room =
    let over = stored_over most_kept (after rules bytes).bytes kept room in
    let stored : kept_of w.bytes kept ≡ kept_of (after rules bytes).bytes kept =
    ap (λ (bs : List ℕ). bs ++ drop (length bs) kept) same.bytes.begin in
    record {
      state = rw (all, same.offset, same.rows, same.whole, blocks);
      columns = is;
      kept = ap (take (length (after rules bytes).bytes)) stored ∙ over.0;
      room = ap length stored ∙ over.1;
    }

module _ (rules bytes : List ℕ) (r : Receiver) (stands : Stands rules bytes r) where
  held_is : held_in r.state ≡ length (after rules bytes).bytes
  held_is = rw stands.state (simp (length-drop, zero-add))

  -- what it waits for
  pub same_wait : SameWait (waiting_of r.state r.kept) (after rules bytes)
  same_wait =
      let filled = filled_up most_kept (after rules bytes).bytes r.kept stands.room stands.kept in
      record {
        offset = ap (λ (s : State). s.offset) stands.state;
        bytes = rw held_is (record { long = filled.0; begin = filled.1 });
        rows = ap (λ (s : State). s.rows) stands.state;
        whole = ap (λ (s : State). eqb s.whole 1) stands.state ∙ bit_back (after rules bytes).whole;
      }

  -- nothing of it is all in
  pub waits : settled rules (after rules bytes) ≡ []
  waits = rest_waits rules bytes 0

  module _ (valid : valid_of rules ≡ true) where
    pub tries_are : (bs : List ℕ) (offset : ℕ) → top_tries (rules_at r.state r.rules) bs offset ≡ top_tries rules bs offset
    tries_are bs offset = rw (stands.state, stands.columns) (stored_tries rules valid bs offset)

    module _ (small : Bytes bytes) (short : length bytes ≤ most_bytes) where
      in_bounds_lem : in_bounds r.state ≡ true
      unfolding in_bounds
      in_bounds_lem =
          let w : Waiting = after rules bytes in
          let within : w.offset ≤ length bytes = omega (arith, extent_within rules bytes 0) in
          let each : w.rows ≤ w.offset = omega (arith, rows_within rules bytes 0) in
          let most : w.offset ≤ w.rows * 524280 = omega (arith, extent_most rules bytes 0 small) in
          rw (stands.state, bit_small w.whole, le-leb _ 8 (stored_blocks rules valid), le-leb _ most_bytes short, le-leb _ _ within, le-leb _ _ each, le-leb _ _ most, zero-add (length (arrived rules bytes 0)), none_spoils (arrived rules bytes 0))

      is_sound : sound r.state r.rules ≡ true
      unfolding sound
      is_sound = rw (in_bounds_lem, stands.state, stands.columns, stored_valid rules valid)

      pub stands_usable : usable r.state r.rules r.kept ≡ true
      unfolding usable
      stands_usable =
          let v : Waiting = waiting_of r.state r.kept in
          rw (is_sound, tries_are v.bytes v.offset, same_waits rules v (after rules bytes) same_wait waits)
