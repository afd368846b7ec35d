-- A piece after bytes that are held: their header, the record that ends in the piece, and what follows it.
-- The kept bytes decide the header of all. Assumes nothing.
use mathlib.Core.Path.{◌≡◌, sym, ap, ◌∙◌}
use mathlib.Core.List.{List, ◌++◌, append_assoc, append-nil}
use mathlib.Core.Logic.{⊎_elim}
use Prim.Native.Nat.{ℕ, ◌+◌, ◌-◌, ◌≤◌, ◌<◌}
use native.Mathlib.Omega.{arith}
use lib.ListN.{length, take, drop, replicate, length-append, length-take, length-replicate}
use lib.Seq.{take_all, drop-append-add}
use Rattle.basics.proofs.Orders.{le_or_lt}
use Rattle.header_judge.specs.Head.{head_of}
use Rattle.header_judge.proofs.Longer.{head_decided}
use Rattle.region_rows.specs.Rows.{top}
use Rattle.region_try.specs.Tries.{try_of}
use Rattle.receiver.specs.Calls.{most_kept, kept_of}
use Rattle.receiver.specs.Steps.{bytes_in, put_of, moved_of, held_bytes, came_bytes}
use Rattle.receiver.specs.declared.piece.Moved.{Moved}
use Rattle.receiver.proofs.Passes.{moved_waits, moved_put}
use Rattle.receiver.proofs.Records.{full, lacks_bytes}
use Rattle.receiver.proofs.Taken.{kept_again}

-- ---- bytes that are held

module _ (rules : List ℕ) (held : ℕ) (kept : List ℕ) (long : length kept ≡ most_kept) where
  pub held_length : length (held_bytes held kept) ≡ held
  held_length = simp (length-append, length-take, length-replicate) (omega arith)

  -- the kept bytes tell the header of all
  pub held_head : head_of rules (held_bytes held kept) ≡ head_of rules (take held kept)
  held_head =
      ⊎_elim
      (λ (h : held ≤ most_kept). let none : held - most_kept ≡ 0 = omega arith in rw none (ap (head_of rules) (append-nil (take held kept))))
      (λ (h : most_kept < held).
      let all : take held kept ≡ kept = take_all held kept (omega arith) in
      rw all (head_decided kept (replicate (held - most_kept) 0) rules (omega arith)))
      (le_or_lt held most_kept)

-- ---- a piece after them

module _ (rules : List ℕ) (held : ℕ) (kept piece : List ℕ) (long : length kept ≡ most_kept) where
  abbrev front : List ℕ
  front = take held kept

  abbrev zeros : List ℕ
  zeros = replicate (held - most_kept) 0

  abbrev came : List ℕ
  came = came_bytes held kept piece

  pub came_length : length came ≡ held + length piece
  came_length = length-append (held_bytes held kept) piece ∙ ap (λ (n : ℕ). n + length piece) (held_length rules held kept long)

  -- up to 536 bytes all are kept
  pub held_kept : held ≤ most_kept → came ≡ front ++ piece
  held_kept h =
      let none : held - most_kept ≡ 0 = omega arith in
      rw none (ap (λ (bs : List ℕ). bs ++ piece) (append-nil front))

  -- past them the header was decided before the piece
  header_decided : most_kept < held → head_of rules came ≡ head_of rules front
  header_decided more =
      let all : front ≡ kept = take_all held kept (omega arith) in
      ap (head_of rules) (append_assoc front zeros piece) ∙ head_decided front (zeros ++ piece) rules (rw all (omega arith))

  -- so a record with fewer bytes than are held, which was not all in, begins in kept bytes
  pub small_kept : (declared left : ℕ) → 0 < declared → declared ≡ bytes_in left (head_of rules came) → bytes_in held (head_of rules front) ≡ 0 → declared < held
      → held ≤ most_kept
  small_kept declared left some are waits small =
      ⊎_elim
      (λ (few : held ≤ most_kept). few)
      (λ (many : most_kept < held).
      let f = full left (head_of rules came) (rw (← are) some) in
      let declares : declared ≡ f.summary.declared = are ∙ f.bytes in
      let lacks = lacks_bytes held f.summary f.some (ap (bytes_in held) (sym (sym (header_decided many) ∙ f.is)) ∙ waits) in
      absurd (omega arith))
      (le_or_lt held most_kept)

  -- bytes of the piece alone follow a record that has all those that are held
  past_held : (declared : ℕ) → held ≤ declared → drop declared came ≡ drop (declared - held) piece
  past_held declared h =
      let n : declared ≡ length (held_bytes held kept) + (declared - held) = rw (held_length rules held kept long) (omega arith) in
      ap (λ (k : ℕ). drop k came) n ∙ drop-append-add (held_bytes held kept) piece (declared - held)

  module _ (m : Moved) (t : List ℕ) where
    -- so the piece's own bytes, walked after it, end as all do
    pub record_then : (declared : ℕ) → 0 < declared → declared ≡ bytes_in (held + length piece) (head_of rules came) → held ≤ declared
        → (taken own t₁ : List ℕ) (m₁ : Moved) → own ≡ drop (declared - held) piece
        → ◌≡◌ {A = List ℕ × Moved} (t₁, m₁) (put_of (try_of 0 top m.offset (held + length piece) (head_of rules came)) m t)
        → moved_of rules own m₁ taken t₁ ≡ moved_of rules came m taken t
    record_then declared some are all taken own t₁ m₁ e put =
        rw e
        (sym (moved_put rules came m taken t declared some (rw came_length are) t₁ m₁ (rw came_length put) ∙ rw (past_held declared all)))

    -- no record is all in
    pub none_then : bytes_in (held + length piece) (head_of rules came) ≡ 0
        → ◌≡◌ {A = List ℕ × List ℕ × Moved} (kept_of came kept, t, m) (moved_of rules came m (kept_of came kept) t)
    none_then none =
        sym (moved_waits rules came m (kept_of came kept) t (rw came_length none) ∙ ap (λ (bs : List ℕ). (bs, t, m)) (kept_again came kept))
