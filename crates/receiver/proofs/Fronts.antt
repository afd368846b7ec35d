-- What a front tells of its record: the bytes that are in, and the row.
-- By the tests that make up a header. Assumes nothing.
use mathlib.Core.Path.{◌≡◌, sym, ap, ◌∙◌}
use mathlib.Core.List.{List}
use mathlib.Core.Bool.{Bool, not, ◌&&◌}
use Prim.Native.Nat.{ℕ, min, ◌+◌, ◌≤◌, ◌<◌}
use native.Mathlib.Omega.{arith}
use lib.Dec.{ltb}
use borrow.Author.Tests.{lt-leb, le-leb, ne_eqb}
use Rattle.std.proofs.Common.{Ok}
use Rattle.header_judge.specs.Head.{declared_of, is_box, summary_of, Complete, declared_by}
use Rattle.header_judge.specs.declared.Summary.{Summary}
use Rattle.header_judge.proofs.Sizes.{size_found}
use Rattle.header_judge.proofs.Heads.{head_record, declared_record, word_there, header_there}
use Rattle.region_rows.specs.Rows.{top, with_span}
use Rattle.region_try.specs.Tries.{hit, span_of, try_of}
use Rattle.region_try.specs.Whole.{keeps_whole}
use Rattle.receiver.specs.Fronts.{head_in, row_in}
use Rattle.receiver.specs.Steps.{bytes_in, put_of}
use Rattle.receiver.specs.declared.front.Front.{Front}
use Rattle.receiver.specs.declared.piece.Moved.{Moved}
use Rattle.receiver.proofs.Records.{full}

-- a record that is all in leaves the listing whole but where it is a Box whose header exceeds it
keeps_whole_lem : (offset left : ℕ) (s : Summary) → s.declared ≤ left
    → not (is_box s.word s.flags && ltb s.declared s.size) ≡ keeps_whole (hit (span_of 0 top offset left s))
unfolding keeps_whole
keeps_whole_lem offset left s h =
    let held : min s.declared left ≡ s.declared = omega arith in
    rw (held, le-leb s.declared s.declared (omega arith))

module _ (f : Front) (left : ℕ) where
  abbrev summary : Summary
  summary = summary_of f.bytes.now f.word f.flags

  -- with fewer than it declares, none are in; else they are those
  pub none_in : left < declared_by (head_in f) → 0 ≡ bytes_in left (head_in f)
  unfolding bytes_in
  none_in h = rw (lt-leb (declared_by (head_in f)) left h)

  pub all_in_lem : declared_by (head_in f) ≤ left → declared_by (head_in f) ≡ bytes_in left (head_in f)
  unfolding bytes_in
  all_in_lem h = rw (le-leb (declared_by (head_in f)) left h)

  -- what is all in has its header, and is that record
  pub record AllIn (declared : ℕ) : Type 0 where
    pub is : head_in f ≡ Ok summary
    pub declares : declared ≡ declared_of f.bytes.now f.flags
    pub sized : Complete f.bytes.now f.word f.flags
    pub fits : declared ≤ left

  module _ (declared : ℕ) (some : 0 < declared) (are : declared ≡ bytes_in left (head_in f)) where
    pub record_in : AllIn declared
    unfolding declared_by
    record_in =
        let found = full left (head_in f) (rw (← are) some) in
        let declares : declared_by (head_in f) ≡ declared = ap declared_by found.is ∙ sym found.bytes ∙ sym are in
        let declared_some : 0 < declared_by (head_in f) = rw declares some in
        let there = word_there f.bytes.now f.word f.flags declared_some in
        let sized = header_there f.bytes.now f.word f.flags declared_some in
        record {
          is = head_record f.bytes.now f.word f.flags there sized;
          declares = sym (declared_record f.bytes.now f.word f.flags there sized ∙ declares);
          sized = sized;
          fits = rw (are ∙ found.bytes) found.fits;
        }

    -- whether its row leaves the listing whole, by the numbers that are read
    pub keeps_in : (offset : ℕ) (box : Bool) (size : ℕ) → f.size ≡ Ok size → box ≡ is_box f.word f.flags
        → not (box && ltb declared size) ≡ keeps_whole (hit (row_in f offset left))
    keeps_in offset box size found b =
        let all = record_in in
        let fits : summary.declared ≤ left = rw (← all.declares) all.fits in
        let is = (size_found f.bytes.now f.word f.flags (sym f.sized ∙ found)).is in
        rw (b, is, all.declares) (keeps_whole_lem offset left summary fits)

    -- its row is written, and the walk goes past it
    pub moved_in : (m : Moved) (t : List ℕ)
        → ◌≡◌ {A = List ℕ × Moved}
        (with_span t m.rows (row_in f m.offset left), record { rows = m.rows + 1; offset = m.offset + declared; whole = m.whole && keeps_whole (hit (row_in f m.offset left)) })
        (put_of (try_of 0 top m.offset left (head_in f)) m t)
    unfolding put_of try_of
    moved_in m t =
        let all = record_in in
        let nonzero = ne_eqb summary.declared 0 (λ e. let declares = all.declares in omega arith) in
        rw (all.is, all.declares, nonzero)

    -- the same, by the numbers that are read
    pub put_in : (m : Moved) (t : List ℕ) (box : Bool) (size : ℕ) → f.size ≡ Ok size → box ≡ is_box f.word f.flags
        → ◌≡◌ {A = List ℕ × Moved}
        (with_span t m.rows (span_of 0 top m.offset left summary), record { rows = m.rows + 1; offset = m.offset + declared; whole = m.whole && not (box && ltb declared size) })
        (put_of (try_of 0 top m.offset left (head_in f)) m t)
    put_in m t box size found b = rw (keeps_in m.offset box size found b) (moved_in m t)
