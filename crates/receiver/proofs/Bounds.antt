-- What the bounds of a state say of its numbers, and what its rules and its kept bytes say.
-- By taking the tests apart. Assumes nothing.
use mathlib.Core.Path.{◌≡◌, sym, ◌∙◌}
use mathlib.Core.Bool.{true, false}
use mathlib.Core.List.{List}
use Prim.Native.Nat.{ℕ, ◌≤◌}
use native.Mathlib.Omega.{arith}
use lib.Dec.{eqb}
use lib.ListN.{length, take}
use borrow.Author.Tests.{eqb-true, leb-true}
use Rattle.basics.proofs.Bools.{both}
use Rattle.header_judge.specs.Head.{head_of}
use Rattle.receiver.specs.Calls.{most_kept, in_use, held_in, rules_at, in_range, in_bounds, sound, usable}
use Rattle.receiver.specs.Steps.{bytes_in, held_bytes}
use Rattle.receiver.specs.declared.State.{State}
use Rattle.receiver.proofs.Arrived.{arrived_end}
use Rattle.receiver.proofs.Records.{waits_exactly}
use Rattle.receiver.proofs.Moves.{held_length, held_head}

pub record InRange (s : State) : Type 0 where
  pub used : s.stage ≡ in_use
  pub marked : s.whole ≤ 1
  pub blocks : s.rule_blocks ≤ 8
  pub taken : s.taken ≤ 1048576
  pub offset : s.offset ≤ s.taken
  pub rows : s.rows ≤ s.offset

pub in_range_lem : (s : State) → in_range s ≡ true → InRange s
in_range_lem s e =
    let rows = both _ _ e in
    let offset = both _ _ rows.0 in
    let taken = both _ _ offset.0 in
    let blocks = both _ _ taken.0 in
    let used = both _ _ blocks.0 in
    record {
      used = eqb-true s.stage in_use used.0;
      marked = leb-true s.whole 1 used.1;
      blocks = leb-true s.rule_blocks 8 blocks.1;
      taken = leb-true s.taken 1048576 taken.1;
      offset = leb-true s.offset s.taken offset.1;
      rows = leb-true s.rows s.offset rows.1;
    }

-- a state in its bounds is in range
pub bounds_range : (s : State) → in_bounds s ≡ true → InRange s
unfolding in_bounds
bounds_range s e = in_range_lem s (both (in_range s) _ e).0

-- ---- the rules and the kept bytes

module _ (s : State) (columns : List ℕ) where
  pub sound_bounds : sound s columns ≡ true → in_bounds s ≡ true
  unfolding sound
  sound_bounds e = (both (in_bounds s) _ e).0

module _ (s : State) (columns kept : List ℕ) where
  pub unusable : sound s columns ≡ false → false ≡ usable s columns kept
  unfolding usable
  unusable e = rw e

  -- a sound state is usable where no record is all in, as the kept bytes tell
  pub usable_by : length kept ≡ most_kept → sound s columns ≡ true → eqb (bytes_in (held_in s) (head_of (rules_at s columns) (take (held_in s) kept))) 0 ≡ usable s columns kept
  unfolding usable
  usable_by long e =
      rw e
      (sym (waits_exactly (rules_at s columns) (held_bytes (held_in s) kept) s.offset
      ∙ rw (held_length (rules_at s columns) (held_in s) kept long, held_head (rules_at s columns) (held_in s) kept long)))

  -- and where nothing is held
  pub usable_empty : sound s columns ≡ true → held_in s ≡ 0 → true ≡ usable s columns kept
  unfolding usable
  usable_empty e z = rw (e, arrived_end (rules_at s columns) (held_bytes (held_in s) kept) s.offset (rw z (omega arith)))

  -- what a usable state says
  usable_sound : usable s columns kept ≡ true → sound s columns ≡ true
  unfolding usable
  usable_sound e = (both (sound s columns) _ e).0

  pub usable_bounds : usable s columns kept ≡ true → in_bounds s ≡ true
  usable_bounds e = sound_bounds s columns (usable_sound e)

  pub usable_waits : length kept ≡ most_kept → usable s columns kept ≡ true → bytes_in (held_in s) (head_of (rules_at s columns) (take (held_in s) kept)) ≡ 0
  usable_waits long e = eqb-true _ 0 (usable_by long (usable_sound e) ∙ e)
