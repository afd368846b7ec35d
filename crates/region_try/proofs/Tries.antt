-- The tries of a region taken apart as the code takes them: none left, a stop, or a record with what stands inside it and the rest.
-- By what the definition does with the first byte, after the bytes to skip. Assumes nothing.
use mathlib.Core.Path.{◌≡◌, refl, ap, sym, ◌∙◌}
use mathlib.Core.List.{List, [], ◌∷◌, ◌++◌}
use mathlib.Core.Bool.{Bool, true, false, cond}
use Prim.Native.Nat.{ℕ, zero, suc, ◌+◌, ◌-◌, ◌≤◌, ◌<◌}
use native.Mathlib.Omega.{arith}
use native.Mathlib.Nat.{add-zero}
use lib.Dec.{leb}
use lib.ListN.{length, take, drop, drop_of_length-le}
use borrow.Author.Tests.{le-leb}
use Rattle.header_judge.specs.Head.{is_box, head_of, Head}
use Rattle.region_rows.specs.declared.Span.{Span}
use Rattle.region_try.specs.Tries.{Try, none, hit, try_of, deepest, rows_found, Inside, within, onward, records, box_tries, region_tries}

-- the rows of some tries and then of others
pub rows_append : (us vs : List Try) → rows_found (us ++ vs) ≡ rows_found us ++ rows_found vs
unfolding rows_found
rows_append [] vs = refl
rows_append (none l o head ∷ us) vs = rows_append us vs
rows_append (hit r ∷ us) vs = ap (λ (rs : List Span). r ∷ rs) (rows_append us vs)

module _ (rules : List ℕ) (box : Inside) (levels parent : ℕ) where
  records_skip : (k : ℕ) (bs : List ℕ) (offset n : ℕ) → records rules box levels parent k bs offset n ≡ records rules box levels parent 0 (drop k bs) (offset + k) n
  unfolding records
  records_skip zero bs offset n = rw add-zero
  records_skip (suc k) [] offset n = refl
  records_skip (suc k) (b ∷ bs) offset n =
      let e : offset + 1 + k ≡ offset + suc k = omega arith in
      records_skip k bs (offset + 1) n ∙ ap (λ (o : ℕ). records rules box levels parent 0 (drop k bs) o n) e

  pub records_end : (bs : List ℕ) (offset n : ℕ) → length bs ≤ 0 → records rules box levels parent 0 bs offset n ≡ []
  unfolding records
  records_end [] offset n h = refl
  records_end (b ∷ bs) offset n h = absurd (omega arith)

  -- the try at the start of a region
  abbrev pub first : List ℕ → ℕ → Try
  first bs offset = try_of (deepest - levels) parent offset (length bs) (head_of rules bs)

  pub records_first : (bs : List ℕ) (offset n : ℕ) → 0 < length bs → (vs : List Try) × (records rules box levels parent 0 bs offset n ≡ first bs offset ∷ vs)
  unfolding records onward
  records_first [] offset n h = absurd (omega arith)
  records_first (b ∷ bs) offset n h = by (first (b ∷ bs) offset)
    where
      by : (v : Try) → (vs : List Try) × (onward box (b ∷ bs) n v (λ k m. records rules box levels parent k bs (offset + 1) m) ≡ v ∷ vs)
      by (none l o head) = ([], refl)
      by (hit r) = (_, refl)

  pub records_stop : (bs : List ℕ) (offset n : ℕ) {l o : ℕ} {head : Head} → 0 < length bs → first bs offset ≡ none l o head
      → records rules box levels parent 0 bs offset n ≡ first bs offset ∷ []
  unfolding records onward
  records_stop [] offset n h e = absurd (omega arith)
  records_stop (b ∷ bs) offset n h e = rw e

  pub records_hit : (bs : List ℕ) (offset n : ℕ) (r : Span) → 0 < length bs → first bs offset ≡ hit r → 0 < r.declared
      → records rules box levels parent 0 bs offset n
      ≡ first bs offset
      ∷ (within box (take r.declared bs) r n
      ++ records rules box levels parent 0 (drop r.declared bs) (offset + r.declared) (n + 1 + length (rows_found (within box (take r.declared bs) r n))))
  unfolding records onward
  records_hit [] offset n r h e p = absurd (omega arith)
  records_hit (b ∷ bs) offset n r h e p =
      let d : r.declared ≡ suc (r.declared - 1) = omega arith in
      let o : offset + 1 + (r.declared - 1) ≡ offset + r.declared = omega arith in
      rw (e, records_skip (r.declared - 1) bs (offset + 1), o)
      (ap (λ (xs : List ℕ). hit r
      ∷ (within box (take r.declared (b ∷ bs)) r n
      ++ records rules box levels parent 0 xs (offset + r.declared) (n + 1 + length (rows_found (within box (take r.declared (b ∷ bs)) r n)))))
      (sym (ap (λ (k : ℕ). drop k (b ∷ bs)) d)))

-- ---- inside a record

pub within_plain : (box : Inside) (held : List ℕ) (r : Span) (row : ℕ) → is_box r.word r.flags ≡ false → within box held r row ≡ []
within_plain box held r row e = rw e

pub within_box : (box : Inside) (held : List ℕ) (r : Span) (row : ℕ) → is_box r.word r.flags ≡ true → within box held r row ≡ box held r.offset r.size row
within_box box held r row e = rw e

module _ (rules : List ℕ) (levels : ℕ) (held : List ℕ) (offset size row : ℕ) where
  pub box_deep : levels ≡ 0 → box_tries rules levels held offset size row ≡ []
  unfolding box_tries
  box_deep e = rw e

  pub box_short : length held ≤ size → box_tries rules levels held offset size row ≡ []
  unfolding box_tries
  box_short h = by levels
    where
      opened : (l : ℕ) (b : Bool) → cond b (records rules (box_tries rules l) l row 0 (drop size held) (offset + size) (row + 1)) [] ≡ []
      opened l true = rw (drop_of_length-le held h) (records_end rules (box_tries rules l) l row [] (offset + size) (row + 1) (omega arith))
      opened l false = refl

      by : (l : ℕ) → box_tries rules l held offset size row ≡ []
      by zero = refl
      by (suc l) = opened l (leb size (length held))

  pub box_open : 0 < levels → size ≤ length held
      → box_tries rules levels held offset size row ≡ region_tries rules (levels - 1) (drop size held) (offset + size) row (row + 1)
  unfolding box_tries region_tries
  box_open p h = by levels p
    where
      by : (l : ℕ) → 0 < l → box_tries rules l held offset size row ≡ region_tries rules (l - 1) (drop size held) (offset + size) row (row + 1)
      by zero p = absurd (omega arith)
      by (suc l) p = let k : suc l - 1 ≡ l = omega arith in rw (le-leb _ _ h, k)
