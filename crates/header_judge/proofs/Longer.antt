-- A header that is found in some bytes is found in them with any others after them, and says the same; 536 bytes decide whatever stands there.
-- What it says is read from bytes that its size covers. Assumes nothing.
use mathlib.Core.Path.{◌≡◌, refl, sym, ap, ◌∙◌}
use mathlib.Core.Bool.{Bool, true, false, cond}
use mathlib.Core.List.{List, ◌++◌}
use Prim.Native.Nat.{ℕ, ◌+◌, ◌≤◌}
use native.Mathlib.Omega.{arith}
use lib.Dec.{eqb, ltb}
use lib.ListN.{length, take, drop, length-append, length-take, take-append-drop, get_or-append}
use borrow.Author.Tests.{le-ltb, ltb-false}
use Rattle.std.proofs.Common.{Result, Ok, Err}
use Rattle.le.specs.Le.{le}
use Rattle.le.proofs.Laws.{le_same}
use Rattle.rules.specs.Rules.{flags_of}
use Rattle.header_judge.specs.Version.{no_word, end_mark, word_of, ending_of}
use Rattle.header_judge.specs.Head.{legacy, sizes_end, declared_of, layout_of, size_for, count_of, layout_size, size_of, origin_in, origin_of, summary_of, head_sized, head_with, head_of}
use Rattle.header_judge.specs.declared.Layout.{Layout}
use Rattle.header_judge.specs.declared.Layout.TheVariants.{Zero, One, Two, Three, Four, Five, Six, LegacyServer, LegacyGpu, Bad}
use Rattle.header_judge.specs.declared.Summary.{Summary}
use Rattle.header_judge.specs.declared.NoRecord.{NoRecord}
use Rattle.header_judge.proofs.Sizes.{legacy_end, plain_end, sizes_most, count_most, size_long, size_found, size_there, size_most}
use Rattle.header_judge.proofs.Heads.{head_record, record_told}

module _ (bs more : List ℕ) where
  longer : {n : ℕ} → n ≤ length bs → n ≤ length (bs ++ more)
  longer h = simp length-append (omega arith)

  -- a number that stands in the bytes
  le_longer : (w at : ℕ) → at + w ≤ length bs → le w (bs ++ more) at ≡ le w bs at
  le_longer w at h = le_same w (bs ++ more) bs at at (λ k l. get_or-append bs more 0 (at + k) (omega arith))

  -- a word, where there is one or there are its bytes
  word_there : (word_of bs ≡ no_word → ⊥) → 4 ≤ length bs
  unfolding word_of
  word_there there = by (ltb (length bs) 4) refl there
    where
      by : (b : Bool) → ltb (length bs) 4 ≡ b → (cond b no_word (cond (eqb (le 4 bs 0) end_mark) no_word (le 4 bs 0)) ≡ no_word → ⊥) → 4 ≤ length bs
      by true e f = absurd (f refl)
      by false e f = ltb-false (length bs) 4 e

  word_longer : 4 ≤ length bs → (word_of (bs ++ more) ≡ word_of bs) × (ending_of (bs ++ more) ≡ ending_of bs)
  unfolding word_of ending_of
  word_longer h = (
    rw (le-ltb (length bs) 4 h, le-ltb (length (bs ++ more)) 4 (longer h), le_longer 4 0 h),
    rw (le-ltb (length bs) 4 h, le-ltb (length (bs ++ more)) 4 (longer h), le_longer 4 0 h),
  )

  declared_longer : (flags : ℕ) → sizes_end flags ≤ length bs → declared_of (bs ++ more) flags ≡ declared_of bs flags
  unfolding declared_of
  declared_longer flags h = by (legacy flags) refl
    where
      by : (b : Bool) → legacy flags ≡ b → declared_of (bs ++ more) flags ≡ declared_of bs flags
      by true e = let n : 18 ≤ length bs = omega (arith, legacy_end flags e) in rw (e, le_longer 2 16 n)
      by false e = let n : 8 ≤ length bs = omega (arith, plain_end flags e) in rw (e, le_longer 2 4 (omega arith), le_longer 2 6 n)

  -- a layout whose bytes are there: its size, by the count of type 6 too, and what it names
  layout_longer : (l : Layout) (word : ℕ) → size_for l (count_of bs) ≤ length bs
      → (size_for l (count_of (bs ++ more)) ≡ size_for l (count_of bs)) × (origin_in l (bs ++ more) word ≡ origin_in l bs word)
  layout_longer Zero word h = (refl, refl)
  layout_longer One word h = (refl, refl)
  layout_longer Two word h = (refl, refl)
  layout_longer Three word h = (refl, refl)
  layout_longer Four word h = (refl, refl)
  layout_longer Five word h = (refl, refl)
  layout_longer Six word h =
      let n : 28 ≤ length bs = omega arith in (
        rw (le-ltb (length bs) 28 n, le-ltb (length (bs ++ more)) 28 (longer n), le_longer 2 26 n),
        rw (le_longer 1 25 (omega arith), le_longer 1 24 (omega arith)),
      )
  layout_longer LegacyServer word h = (refl, rw (le_longer 1 24 (omega arith)))
  layout_longer LegacyGpu word h = (refl, refl)
  layout_longer Bad word h = (refl, refl)

  -- the size fields and the header are there
  module _ (word flags : ℕ) (sizes : sizes_end flags ≤ length bs) (there : size_for (layout_of word flags) (count_of bs) ≤ length bs) where
    layout_same : layout_size (bs ++ more) word flags ≡ layout_size bs word flags
    layout_same = (layout_longer (layout_of word flags) word there).0

    size_longer : size_of (bs ++ more) word flags ≡ size_of bs word flags
    size_longer =
        size_long (bs ++ more) word flags (longer sizes) (rw layout_same (longer there))
        ∙ rw layout_same (sym (size_long bs word flags sizes there))

    summary_longer : summary_of (bs ++ more) word flags ≡ summary_of bs word flags
    unfolding origin_of
    summary_longer = rw (declared_longer flags sizes, layout_same, (layout_longer (layout_of word flags) word there).1)

    head_same : (r : Result ℕ NoRecord) → head_sized (bs ++ more) word flags r ≡ head_sized bs word flags r
    head_same (Err why) = refl
    head_same (Ok size) = ap Ok summary_longer

  pub head_longer : (rules : List ℕ) {s : Summary} → head_of rules bs ≡ Ok s → head_of rules (bs ++ more) ≡ Ok s
  unfolding head_of
  head_longer rules e =
      let told = record_told rules bs e in
      let word = word_of bs in
      let flags = flags_of rules word in
      let sizes = (size_found bs word flags told.found).sizes in
      let there = size_there bs word flags refl told.found in
      ap (λ (w : ℕ). head_with (bs ++ more) w (flags_of rules w)) (word_longer (word_there told.there)).0
      ∙ head_record (bs ++ more) word flags told.there (size_longer word flags sizes there ∙ told.found ∙ ap Ok (sym (layout_same word flags sizes there)))
      ∙ ap Ok (summary_longer word flags sizes there ∙ sym told.is)

  pub head_decided : (rules : List ℕ) → 536 ≤ length bs → head_of rules (bs ++ more) ≡ head_of rules bs
  unfolding head_of head_with
  head_decided rules h =
      let word = word_of bs in
      let flags = flags_of rules word in
      let sizes : sizes_end flags ≤ length bs = omega (arith, sizes_most flags) in
      let there : size_for (layout_of word flags) (count_of bs) ≤ length bs = omega (arith, size_most (layout_of word flags) (count_of bs) (count_most bs)) in
      let same = word_longer (omega arith) in
      rw (same.0, same.1, size_longer word flags sizes there, head_same word flags sizes there (size_of bs word flags))

-- so bytes that have the same first 536 have the same header
pub head_start : (bs cs : List ℕ) (rules : List ℕ) → 536 ≤ length bs → 536 ≤ length cs → take 536 bs ≡ take 536 cs → head_of rules bs ≡ head_of rules cs
head_start bs cs rules h g e = by bs h ∙ ap (head_of rules) e ∙ sym (by cs g)
  where
    by : (ds : List ℕ) → 536 ≤ length ds → head_of rules ds ≡ head_of rules (take 536 ds)
    by ds h =
        ap (head_of rules) (sym (take-append-drop 536 ds))
        ∙ head_decided (take 536 ds) (drop 536 ds) rules (simp length-take (omega arith))
