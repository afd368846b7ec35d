-- The rows that a region's walk finds are a nest, at any offset and with any number of rows before them.
-- By induction over the levels, and over the bytes within a level. Assumes nothing.
use mathlib.Core.Path.{◌≡◌, refl}
use mathlib.Core.List.{List, [], ◌∷◌}
use mathlib.Core.Bool.{Bool, true, false, cond}
use mathlib.Core.Logic.{⊎_elim}
use Prim.Native.Nat.{ℕ, zero, suc, ◌+◌, ◌-◌, ◌≤◌, ◌<◌, min}
use native.Mathlib.Omega.{arith}
use native.Mathlib.Nat.{add-zero}
use lib.Dec.{eqb, leb}
use lib.ListN.{length, take, drop, length-take, length-drop}
use borrow.Author.Tests.{eqb-false, leb-true}
use Rattle.std.proofs.Common.{Ok, Err}
use Rattle.basics.proofs.Orders.{le_or_lt}
use Rattle.header_judge.specs.Head.{is_box, head_of, Head}
use Rattle.region_rows.specs.declared.Span.{Span}
use Rattle.region_try.specs.Tries.{span_of, Try, none, hit, try_of, deepest, rows_found, Inside, within, onward, records, box_tries, region_tries}
use Rattle.region_try.proofs.Tries.{rows_append}
use Rattle.nesting_laws.proofs.Nest.{Fits, Opens, Nest, bare, boxed, past}

-- the rows inside a Box are a nest in its held bytes after its header
abbrev Nests : ℕ → Inside → Type 0
Nests level box = (held : List ℕ) (offset size row : ℕ) → Nest level row (offset + size) (offset + length held) (row + 1) (rows_found (box held offset size row))

module _ (level : ℕ) (box : Inside) (nests : Nests (suc level) box) where
  within_nests : (boxed : Bool) (held : List ℕ) (offset size row : ℕ)
      → Nest (suc level) row (offset + size) (offset + length held) (row + 1) (rows_found (cond boxed (box held offset size row) []))
  unfolding rows_found
  within_nests true held offset size row = nests held offset size row
  within_nests false held offset size row = bare

  onward_nests : (parent offset : ℕ) (bs : List ℕ) (n : ℕ) (head : Head) (rest : ℕ → ℕ → List Try) → 0 < length bs
      → ((k m : ℕ) → Nest level parent (offset + suc k) (offset + length bs) m (rows_found (rest k m)))
      → Nest level parent offset (offset + length bs) n (rows_found (onward box bs n (try_of level parent offset (length bs) head) rest))
  unfolding onward try_of rows_found
  onward_nests parent offset bs n (Err why) rest p f = bare
  onward_nests parent offset bs n (Ok s) rest p f = by (eqb s.declared 0) refl
    where
      row : Span
      row = span_of level parent offset (length bs) s

      tries : List Try
      tries = within box (take s.declared bs) row n

      m : ℕ
      m = n + 1 + length (rows_found tries)

      by : (b : Bool) → eqb s.declared 0 ≡ b
          → Nest level parent offset (offset + length bs) n (rows_found (onward box bs n (cond b (none level offset (Ok s)) (hit row)) rest))
      by true e = bare
      by false e =
          let some : s.declared ≡ 0 → ⊥ = eqb-false s.declared 0 e in
          let fits : Fits level parent offset (offset + length bs) row =
          record { level_is = refl; parent_is = refl; starts = refl; some_held = omega arith; ends = omega arith } in
          let opens : Opens row (rows_found tries) = λ plain. rw plain in
          let deep : Nest (suc level) n (offset + s.size) (offset + min s.declared (length bs)) (n + 1) (rows_found tries) =
          rw length-take at (within_nests (is_box s.word s.flags) (take s.declared bs) offset s.size n) in
          let rest_nests : Nest level parent (offset + suc (s.declared - 1)) (offset + length bs) m (rows_found (rest (s.declared - 1) m)) = f (s.declared - 1) m in
          let more : Nest level parent (offset + min s.declared (length bs)) (offset + length bs) m (rows_found (rest (s.declared - 1) m)) =
          ⊎_elim
          (λ (h : s.declared ≤ length bs). let at : offset + suc (s.declared - 1) ≡ offset + min s.declared (length bs) = omega arith in rw at at rest_nests)
          (λ (h : length bs < s.declared). past (offset + min s.declared (length bs)) (omega arith) rest_nests)
          (le_or_lt s.declared (length bs)) in
          rw (rows_append tries (rest (s.declared - 1) m)) (boxed row fits opens deep more)

module _ (rules : List ℕ) where
  records_nest : (levels : ℕ) (box : Inside) → Nests (suc (deepest - levels)) box → (parent skip : ℕ) (bs : List ℕ) (offset n : ℕ)
      → Nest (deepest - levels) parent (offset + skip) (offset + length bs) n (rows_found (records rules box levels parent skip bs offset n))
  unfolding records rows_found
  records_nest levels box nests parent skip [] offset n = bare
  records_nest levels box nests parent (suc k) (b ∷ bs) offset n =
      let e : offset + suc k ≡ offset + 1 + k = omega arith in
      let d : offset + suc (length bs) ≡ offset + 1 + length bs = omega arith in
      rw (e, d) (records_nest levels box nests parent k bs (offset + 1) n)
  records_nest levels box nests parent zero (b ∷ bs) offset n =
      rw (add-zero offset)
      (onward_nests (deepest - levels) box nests parent offset (b ∷ bs) n (head_of rules (b ∷ bs)) (λ k m. records rules box levels parent k bs (offset + 1) m) (omega arith)
      (λ k m.
      let e : offset + suc k ≡ offset + 1 + k = omega arith in
      let d : offset + suc (length bs) ≡ offset + 1 + length bs = omega arith in
      rw (e, d) (records_nest levels box nests parent k bs (offset + 1) m)))

  box_nests : (levels : ℕ) → levels ≤ deepest → Nests (suc (deepest - levels)) (box_tries rules levels)
  unfolding box_tries rows_found
  box_nests zero h held offset size row = bare
  box_nests (suc l) h held offset size row = by (box_nests l (omega arith)) (leb size (length held)) refl
    where
      by : Nests (suc (deepest - l)) (box_tries rules l) → (b : Bool) → leb size (length held) ≡ b
          → Nest (suc (deepest - suc l)) row (offset + size) (offset + length held) (row + 1)
          (rows_found (cond b (records rules (box_tries rules l) l row 0 (drop size held) (offset + size) (row + 1)) []))
      by nests false e = bare
      by nests true e =
          let s : size ≤ length held = leb-true size (length held) e in
          let v : suc (deepest - suc l) ≡ deepest - l = omega arith in
          let d : offset + length held ≡ offset + size + length (drop size held) = simp length-drop (omega arith) in
          let z : offset + size ≡ offset + size + 0 = omega arith in
          rw (v, d) (rw (← z) at (records_nest l (box_tries rules l) nests row 0 (drop size held) (offset + size) (row + 1)))

  -- the rows of a region that starts at an offset, with n rows before it
  pub region_nest : (levels : ℕ) → levels ≤ deepest → (bytes : List ℕ) (offset parent n : ℕ)
      → Nest (deepest - levels) parent offset (offset + length bytes) n (rows_found (region_tries rules levels bytes offset parent n))
  unfolding region_tries
  region_nest levels h bytes offset parent n = rw (add-zero offset) at (records_nest levels (box_tries rules levels) (box_nests levels h) parent 0 bytes offset n)
