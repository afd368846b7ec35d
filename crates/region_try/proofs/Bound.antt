-- How many tries a region has at most: so many for each level and each unit of its length, where records fill whole units.
-- By induction over the levels, and over the bytes within a level. Assumes nothing.
use mathlib.Core.Path.{◌≡◌, refl}
use mathlib.Core.List.{List, [], ◌∷◌}
use mathlib.Core.Bool.{Bool, true, false, cond}
use mathlib.Core.Logic.{⊎_elim}
use Prim.Native.Nat.{ℕ, zero, suc, ◌+◌, ◌-◌, ◌*◌, ◌≤◌, ◌<◌, min}
use native.Mathlib.Omega.{arith}
use native.Mathlib.Nat.{suc-mul, mul-le-mul_left, sub-zero}
use lib.Dec.{leb}
use lib.ListN.{length, take, drop, length-append, length-take, length-drop}
use Rattle.std.proofs.Common.{Ok}
use Rattle.header_judge.specs.declared.Summary.{Summary}
use Rattle.header_judge.specs.Head.{is_box, head_of}
use Rattle.region_rows.specs.declared.Span.{Span}
use Rattle.region_rows.specs.Rows.{top}
use Rattle.region_try.specs.Tries.{Try, none, hit, try_of, deepest, rows_found, Inside, within, onward, records, box_tries, region_tries, all_tries}
use Rattle.basics.proofs.Orders.{le_or_lt}
use Rattle.region_try.proofs.Heads.{summary_in, hit_whence}

-- one try, l for each of x, and one more for each of y
spread : (l x y z : ℕ) → 0 < x → x + y ≤ z → suc (l * x + suc l * y) ≤ suc l * z
spread zero x y z h g = omega arith
spread (suc l) x y z h g =
    let i : suc (l * x + suc l * y) ≤ suc l * z = spread l x y z h g in
    rw (suc-mul l x, suc-mul (suc l) y, suc-mul (suc l) z) (omega arith)

at_least : (l x : ℕ) → 0 < x → 1 ≤ suc l * x
at_least l x h = let i : suc (l * x + suc l * 0) ≤ suc l * x = spread l x 0 x h (omega arith) in omega arith

-- the units of a length: none only for none, more for more, and those of a record and of what follows it at most those of both
pub record Units (rules : List ℕ) (u : ℕ → ℕ) : Type 0 where
  pub of_none : u 0 ≡ 0
  pub of_some : (n : ℕ) → 0 < n → 0 < u n
  pub of_more : (m n : ℕ) → m ≤ n → u m ≤ u n
  pub of_record : (bs : List ℕ) (s : Summary) → head_of rules bs ≡ Ok s → (n : ℕ) → u s.declared + u n ≤ u (s.declared + n)

module _ (rules : List ℕ) (u : ℕ → ℕ) (q : Units rules u) where
  -- at most l tries inside a Box for each unit of its held bytes
  abbrev Few : ℕ → Inside → Type 0
  Few l box = (held : List ℕ) (offset size row : ℕ) → length (box held offset size row) ≤ l * u (length held)

  few_within : (l : ℕ) (box : Inside) → Few l box → (held : List ℕ) (r : Span) (row : ℕ) → length (within box held r row) ≤ l * u (length held)
  few_within l box few held r row = by (is_box r.word r.flags)
    where
      by : (b : Bool) → length (cond b (box held r.offset r.size row) []) ≤ l * u (length held)
      by true = few held r.offset r.size row
      by false = omega arith

  -- the units of a record's held bytes, and of those after it
  parted : (bs : List ℕ) (r : Span) → head_of rules bs ≡ Ok (summary_in r)
      → u (length (take r.declared bs)) + u (length bs - r.declared) ≤ u (length bs)
  parted bs r e = rw (length-take r.declared bs) (⊎_elim
      (λ (h : r.declared ≤ length bs).
      let a : min r.declared (length bs) ≡ r.declared = omega arith in
      let s : u r.declared + u (length bs - r.declared) ≤ u (r.declared + (length bs - r.declared)) = q.of_record bs (summary_in r) e (length bs - r.declared) in
      let j : r.declared + (length bs - r.declared) ≡ length bs = omega arith in
      rw a (rw j at s))
      (λ (h : length bs < r.declared).
      let a : min r.declared (length bs) ≡ length bs = omega arith in
      let o : length bs - r.declared ≡ 0 = omega arith in
      rw (a, o, q.of_none) (omega arith))
      (le_or_lt r.declared (length bs)))

  few_onward : (l : ℕ) (box : Inside) → Few l box → (level parent offset : ℕ) (bs : List ℕ) (n : ℕ) (v : Try) (rest : ℕ → ℕ → List Try)
      → 0 < length bs → try_of level parent offset (length bs) (head_of rules bs) ≡ v
      → ((k m : ℕ) → length (rest k m) ≤ suc l * u (length bs - suc k))
      → length (onward box bs n v rest) ≤ suc l * u (length bs)
  unfolding onward
  few_onward l box few level parent offset bs n (none l₁ o head) rest p e f = at_least l (u (length bs)) (q.of_some (length bs) p)
  few_onward l box few level parent offset bs n (hit r) rest p e f =
      let w = hit_whence level parent offset (length bs) (head_of rules bs) r e in
      let d : suc (r.declared - 1) ≡ r.declared = let s : 0 < r.declared = w.some in omega arith in
      let held = take r.declared bs in
      let m = n + 1 + length (rows_found (within box held r n)) in
      let i : length (within box held r n) ≤ l * u (length held) = few_within l box few held r n in
      let j : length (rest (r.declared - 1) m) ≤ suc l * u (length bs - r.declared) = rw d at (f (r.declared - 1) m) in
      let some : 0 < length held = rw (length-take r.declared bs) (let s : 0 < r.declared = w.some in omega arith) in
      let s : suc (l * u (length held) + suc l * u (length bs - r.declared)) ≤ suc l * u (length bs) =
      spread l (u (length held)) (u (length bs - r.declared)) (u (length bs)) (q.of_some (length held) some) (parted bs r w.is) in
      simp length-append (omega arith)

  few_records : (l : ℕ) (box : Inside) → Few l box → (levels parent skip : ℕ) (bs : List ℕ) (offset n : ℕ)
      → length (records rules box levels parent skip bs offset n) ≤ suc l * u (length bs - skip)
  unfolding records
  few_records l box few levels parent skip [] offset n = omega arith
  few_records l box few levels parent (suc k) (b ∷ bs) offset n =
      let e : suc (length bs) - suc k ≡ length bs - k = omega arith in
      rw e (few_records l box few levels parent k bs (offset + 1) n)
  few_records l box few levels parent zero (b ∷ bs) offset n =
      rw (sub-zero (suc (length bs)))
      (few_onward l box few (deepest - levels) parent offset (b ∷ bs) n _ (λ k m. records rules box levels parent k bs (offset + 1) m) (omega arith) refl
      (λ k m.
      let e : suc (length bs) - suc k ≡ length bs - k = omega arith in
      rw e (few_records l box few levels parent k bs (offset + 1) m)))

  few_box : (l : ℕ) → Few l (box_tries rules l)
  unfolding box_tries
  few_box zero held offset size row = omega arith
  few_box (suc l) held offset size row = by (few_box l) (leb size (length held))
    where
      by : Few l (box_tries rules l) → (b : Bool) → length (cond b (records rules (box_tries rules l) l row 0 (drop size held) (offset + size) (row + 1)) []) ≤ suc l * u (length held)
      by few false = omega arith
      by few true =
          let i : length (records rules (box_tries rules l) l row 0 (drop size held) (offset + size) (row + 1)) ≤ suc l * u (length (drop size held) - 0) = few_records l (box_tries rules l) few l row 0 (drop size held) (offset + size) (row + 1) in
          let j : suc l * u (length (drop size held) - 0) ≤ suc l * u (length held) = mul-le-mul_left (suc l) (q.of_more (length (drop size held) - 0) (length held) (simp length-drop (omega arith))) in
          omega arith

  pub region_bound : (levels : ℕ) (bs : List ℕ) (offset parent n : ℕ) → length (region_tries rules levels bs offset parent n) ≤ suc levels * u (length bs)
  unfolding region_tries
  region_bound levels bs offset parent n =
      let i : length (records rules (box_tries rules levels) levels parent 0 bs offset n) ≤ suc levels * u (length bs - 0) = few_records levels (box_tries rules levels) (few_box levels) levels parent 0 bs offset n in
      rw (sub-zero (length bs)) at i

  -- five for each unit of the whole input
  pub all_bound : (bs : List ℕ) → length (all_tries rules bs) ≤ 5 * u (length bs)
  unfolding all_tries
  all_bound bs = region_bound deepest bs 0 top 0

-- every byte is a unit
pub bytes_are_units : (rules : List ℕ) → Units rules (λ n. n)
bytes_are_units rules = record { of_none = refl; of_some = λ n h. h; of_more = λ m n h. h; of_record = λ bs s e n. omega arith }
