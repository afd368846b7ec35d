-- What has come, taken in behind the kept bytes: it lies there from its start on, its header is that of all, and taking it in again changes nothing.
-- By how long the parts are; a header is decided by 536 bytes. Assumes nothing.
use mathlib.Core.Path.{◌≡◌, sym, ap, ap₂, ◌∙◌}
use mathlib.Core.List.{List, ◌++◌, append_assoc, append-nil}
use mathlib.Core.Bool.{Bool, true, false, cond}
use mathlib.Core.Logic.{⊎_elim}
use Prim.Native.Nat.{ℕ, ◌+◌, ◌-◌, min, ◌≤◌, ◌<◌}
use native.Mathlib.Omega.{arith}
use lib.Dec.{eqb}
use lib.ListN.{length, take, drop, replicate, length-append, length-take, length-drop, take-append-drop}
use lib.Seq.{length-take-le, take_all, take_at, take-append-le, take-append-add, drop-append_seam, drop-drop}
use borrow.Rule.Slice.PartMut.{put_mid}
use Rattle.basics.proofs.Orders.{le_or_lt}
use Rattle.header_judge.specs.Head.{head_of}
use Rattle.header_judge.proofs.Longer.{head_decided}
use Rattle.receiver.specs.Calls.{most_kept, kept_of, taken_in}
use Rattle.receiver.specs.Steps.{came_bytes}
use Rattle.receiver.proofs.Kept.{take_least}

-- ---- some bytes at the start of others

over_again : (front kept : List ℕ) → front ++ drop (length front) (front ++ drop (length front) kept) ≡ front ++ drop (length front) kept
over_again front kept = ap (λ (bs : List ℕ). front ++ bs) (drop-append_seam front (drop (length front) kept))

pub kept_again : (bytes kept : List ℕ) → kept_of bytes (kept_of bytes kept) ≡ kept_of bytes kept
kept_again bytes kept = over_again (take most_kept bytes) kept

over_begin : (most : ℕ) (bytes kept : List ℕ) (n : ℕ) → n ≡ min (length bytes) most
    → take n (take most bytes ++ drop (length (take most bytes)) kept) ≡ take most bytes
over_begin most bytes kept n e = take_at (take most bytes) (drop (length (take most bytes)) kept) n (simp length-take (omega arith))

-- as many as are kept are the first of them
pub kept_begin : (bytes kept : List ℕ) (n : ℕ) → n ≡ min (length bytes) most_kept → take n (kept_of bytes kept) ≡ take most_kept bytes
kept_begin bytes kept n e = over_begin most_kept bytes kept n e

over_length : (most : ℕ) (bytes kept : List ℕ) → length kept ≡ most → length (take most bytes ++ drop (length (take most bytes)) kept) ≡ most
over_length most bytes kept long = simp (length-append, length-drop, length-take) (omega arith)

pub kept_length : (bytes kept : List ℕ) → length kept ≡ most_kept → length (kept_of bytes kept) ≡ most_kept
kept_length bytes kept long = over_length most_kept bytes kept long

pub taken_length : (held : ℕ) (bytes kept : List ℕ) → length kept ≡ most_kept → length (taken_in held bytes kept) ≡ most_kept
taken_length held bytes kept long = by (eqb held 0)
  where
    by : (b : Bool) → length (cond b kept (kept_of bytes kept)) ≡ most_kept
    by true = long
    by false = kept_length bytes kept long

-- ---- the header of the first bytes is that of all

head_of_first : (n : ℕ) (rules bs : List ℕ) → 536 ≤ n → head_of rules (take n bs) ≡ head_of rules bs
head_of_first n rules bs h =
    ⊎_elim
    (λ (few : length bs ≤ n). ap (head_of rules) (take_all n bs few))
    (λ (many : n < length bs).
    sym (head_decided (take n bs) (drop n bs) rules (simp length-take (omega arith)))
    ∙ ap (head_of rules) (take-append-drop n bs))
    (le_or_lt (length bs) n)

pub head_taken : (rules bytes kept : List ℕ) (n : ℕ) → n ≡ min (length bytes) most_kept → head_of rules (take n (kept_of bytes kept)) ≡ head_of rules bytes
head_taken rules bytes kept n e = ap (head_of rules) (kept_begin bytes kept n e) ∙ head_of_first most_kept rules bytes (omega arith)

-- ---- a piece behind what is held

module _ (most held : ℕ) (kept piece : List ℕ) (long : length kept ≡ most) where
  abbrev came : List ℕ
  came = (take held kept ++ replicate (held - most) 0) ++ piece

  few_came : held ≤ most → came ≡ take held kept ++ piece
  few_came few =
      let none : held - most ≡ 0 = omega arith in
      rw none (ap (λ (bs : List ℕ). bs ++ piece) (append-nil (take held kept)))

  few_first : held ≤ most → take most came ≡ take held kept ++ take (most - held) piece
  few_first few =
      let split : most ≡ length (take held kept) + (most - held) = rw (length-take-le held kept (omega arith)) (omega arith) in
      ap (take most) (few_came few)
      ∙ ap (λ (n : ℕ). take n (take held kept ++ piece)) split
      ∙ take-append-add (take held kept) piece (most - held)

  many_first : most < held → take most came ≡ kept
  many_first many =
      let zeros : List ℕ = replicate (held - most) 0 in
      let all : take held kept ≡ kept = take_all held kept (omega arith) in
      ap (take most) (append_assoc (take held kept) zeros piece)
      ∙ ap (λ (bs : List ℕ). take most (bs ++ (zeros ++ piece))) all
      ∙ take-append-le most kept (zeros ++ piece) (omega arith)
      ∙ take_all most kept (omega arith)

  -- so many of the kept bytes, and so many of the piece
  module _ (len more : ℕ) (l : len ≡ min held most) (m : more ≡ min (length piece) (most - len)) where
    first_parts : take most came ≡ take len kept ++ take more piece
    first_parts =
        ⊎_elim
        (λ (few : held ≤ most).
        let same : held ≡ len = omega arith in
        let many : more ≡ min (length piece) (most - held) = omega arith in
        few_first few
        ∙ ap₂ (λ (xs ys : List ℕ). xs ++ ys) (ap (λ (n : ℕ). take n kept) same) (sym (ap (λ (n : ℕ). take n piece) many ∙ take_least (most - held) piece)))
        (λ (many : most < held).
        let all : len ≡ most = omega arith in
        let none : more ≡ 0 = omega arith in
        many_first many ∙ rw (all, none) (sym (append-nil (take most kept) ∙ take_all most kept (omega arith))))
        (le_or_lt held most)

    -- the piece's are copied behind the kept ones
    copied_behind : (last : List ℕ) → last ≡ take more piece
        → put_mid len (len + more - len) kept last ≡ take most came ++ drop (length (take most came)) kept
    copied_behind last e =
        let part = take more piece in
        let front = take len kept in
        let both_length : length (front ++ part) ≡ len + more =
        length-append front part ∙ rw (length-take-le more piece (omega arith), length-take-le len kept (omega arith)) in
        let many : len + more - len ≡ more = omega arith in
        rw (e, many, drop-drop more len kept, first_parts, both_length) (sym (append_assoc front part (drop (len + more) kept)))

  -- what was held stays
  held_stays : held ≤ most → take held (take most came ++ drop (length (take most came)) kept) ≡ take held kept
  held_stays few =
      let more = take (most - held) piece in
      let after = drop (length (take most came)) kept in
      ap (λ (bs : List ℕ). take held (bs ++ after)) (few_first few)
      ∙ ap (take held) (append_assoc (take held kept) more after)
      ∙ take_at (take held kept) (more ++ after) held (length-take-le held kept (omega arith))

module _ (held : ℕ) (kept piece : List ℕ) (long : length kept ≡ most_kept) where
  pub taken_copy : (len more : ℕ) → len ≡ min held most_kept → more ≡ min (length piece) (most_kept - len) → (last : List ℕ) → last ≡ take more piece
      → put_mid len (len + more - len) kept last ≡ kept_of (came_bytes held kept piece) kept
  taken_copy len more l m last e = copied_behind most_kept held kept piece long len more l m last e

  pub taken_stays : held ≤ most_kept → take held (kept_of (came_bytes held kept piece) kept) ≡ take held kept
  taken_stays few = held_stays most_kept held kept piece long few
