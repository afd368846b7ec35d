-- The tries at level 0 one after the other, and the records of them that are all in: with the rest they are all tries, and with more bytes no less.
-- By induction over the records that are all in; a header that is found stays as it is whatever follows. Assumes nothing.
use mathlib.Core.Path.{◌≡◌, refl, sym, ap, ◌∙◌}
use mathlib.Core.List.{List, [], ◌∷◌, ◌++◌, map}
use mathlib.Core.Bool.{Bool, true, false, cond}
use mathlib.Core.Logic.{◌⊎◌, inl, inr, ⊎_elim}
use Prim.Native.Nat.{ℕ, zero, suc, ◌+◌, ◌-◌, ◌≤◌, ◌<◌, min}
use native.Mathlib.Omega.{arith}
use native.Mathlib.Nat.{add-zero}
use lib.ListN.{length, take, drop, length-append, length-drop, drop_of_length-le}
use lib.Seq.{drop-drop, drop-append-le}
use borrow.Author.Tests.{le-leb, lt-leb}
use Rattle.std.proofs.Common.{Ok}
use Rattle.basics.proofs.Orders.{le_or_lt}
use Rattle.header_judge.specs.declared.Summary.{Summary}
use Rattle.header_judge.specs.Head.{is_box, head_of, Head}
use Rattle.header_judge.proofs.Longer.{head_longer}
use Rattle.region_rows.specs.declared.Span.{Span}
use Rattle.region_rows.specs.Rows.{top}
use Rattle.region_try.specs.Tries.{Try, none, hit, try_of, deepest, within, onward, records}
use Rattle.region_try.proofs.Heads.{Whence, summary_in, hit_whence}
use Rattle.region_try.proofs.Tries.{records_end, records_stop, records_hit}
use Rattle.receiver.specs.Arrived.{closed, top_tries, all_in, arrived, extent}

-- ---- nothing stands inside a Box that is not opened

pub within_closed : (held : List ℕ) (r : Span) (row : ℕ) → within closed held r row ≡ []
within_closed held r row = by (is_box r.word r.flags)
  where
    by : (b : Bool) → cond {A = List Try} b [] [] ≡ []
    by true = refl
    by false = refl

-- so the rows before do not matter
onward_counted : (bytes : List ℕ) (n m : ℕ) (v : Try) (rest : ℕ → ℕ → List Try) → ((k i j : ℕ) → rest k i ≡ rest k j)
    → onward closed bytes n v rest ≡ onward closed bytes m v rest
unfolding onward
onward_counted bytes n m (none level offset head) rest f = refl
onward_counted bytes n m (hit r) rest f =
    rw (within_closed (take r.declared bytes) r n)
    (ap (λ (vs : List Try). hit r ∷ vs) (f (r.declared - 1) _ _))

-- a record that has all its bytes is found whatever follows them
left_counts : (offset left more : ℕ) (s : Summary) → s.declared ≤ left → s.declared ≤ more → try_of 0 top offset left (Ok s) ≡ try_of 0 top offset more (Ok s)
unfolding try_of
left_counts offset left more s h g = let same : min s.declared left ≡ min s.declared more = omega arith in rw same

module _ (rules : List ℕ) where
  counted : (skip : ℕ) (bytes : List ℕ) (offset n m : ℕ)
      → records rules closed deepest top skip bytes offset n ≡ records rules closed deepest top skip bytes offset m
  unfolding records
  counted skip [] offset n m = refl
  counted (suc k) (b ∷ bs) offset n m = counted k bs (offset + 1) n m
  counted zero (b ∷ bs) offset n m =
      onward_counted (b ∷ bs) n m (try_of 0 top offset (length (b ∷ bs)) (head_of rules (b ∷ bs)))
      (λ k i. records rules closed deepest top k bs (offset + 1) i) (λ k i j. counted k bs (offset + 1) i j)

  -- ---- one try at a time

  -- the try at level 0 at the start of some bytes
  abbrev pub top_try : List ℕ → ℕ → Try
  top_try bytes offset = try_of 0 top offset (length bytes) (head_of rules bytes)

  pub top_end : (bytes : List ℕ) (offset : ℕ) → length bytes ≤ 0 → top_tries rules bytes offset ≡ []
  unfolding top_tries
  top_end bytes offset h = records_end rules closed deepest top bytes offset 0 h

  pub top_stop : (bytes : List ℕ) (offset : ℕ) {l o : ℕ} {head : Head} → 0 < length bytes → top_try bytes offset ≡ none l o head
      → top_tries rules bytes offset ≡ top_try bytes offset ∷ []
  unfolding top_tries
  top_stop bytes offset h e = records_stop rules closed deepest top bytes offset 0 h e

  -- what a record at the start says of its header and its place
  pub top_whence : (bytes : List ℕ) (offset : ℕ) (r : Span) → top_try bytes offset ≡ hit r → Whence 0 offset (length bytes) (head_of rules bytes) r
  top_whence bytes offset r e = hit_whence 0 top offset (length bytes) (head_of rules bytes) r e

  pub top_hit : (bytes : List ℕ) (offset : ℕ) (r : Span) → 0 < length bytes → top_try bytes offset ≡ hit r
      → top_tries rules bytes offset ≡ hit r ∷ top_tries rules (drop r.declared bytes) (offset + r.declared)
  unfolding top_tries
  top_hit bytes offset r h e =
      records_hit rules closed deepest top bytes offset 0 r h e (top_whence bytes offset r e).some
      ∙ rw (e, within_closed (take r.declared bytes) r 0)
      (ap (λ (vs : List Try). hit r ∷ vs) (counted 0 (drop r.declared bytes) (offset + r.declared) _ 0))

  -- ---- the records that are all in, one at a time

  -- a record that is all in stands at the start
  pub record Complete (bytes : List ℕ) (offset : ℕ) (r : Span) : Type 0 where
    pub is : top_try bytes offset ≡ hit r
    pub some : 0 < r.declared
    pub enough : r.declared ≤ length bytes

  all_in_hit : (r : Span) (vs : List Try) → r.declared ≤ r.held → all_in (hit r ∷ vs) ≡ r ∷ all_in vs
  unfolding all_in
  all_in_hit r vs h = rw (le-leb r.declared r.held h)

  all_in_lacks : (r : Span) (vs : List Try) → r.held < r.declared → all_in (hit r ∷ vs) ≡ []
  unfolding all_in
  all_in_lacks r vs h = rw (lt-leb r.declared r.held h)

  pub arrived_end : (bytes : List ℕ) (offset : ℕ) → length bytes ≤ 0 → arrived rules bytes offset ≡ []
  unfolding all_in
  arrived_end bytes offset h = ap all_in (top_end bytes offset h)

  pub arrived_stop : (bytes : List ℕ) (offset : ℕ) {l o : ℕ} {head : Head} → 0 < length bytes → top_try bytes offset ≡ none l o head
      → arrived rules bytes offset ≡ []
  unfolding all_in
  arrived_stop bytes offset h e = ap all_in (top_stop bytes offset h e) ∙ rw e

  pub arrived_lacks : (bytes : List ℕ) (offset : ℕ) (r : Span) → 0 < length bytes → top_try bytes offset ≡ hit r → length bytes < r.declared
      → arrived rules bytes offset ≡ []
  arrived_lacks bytes offset r h e short =
      let held : r.held ≡ min r.declared (length bytes) = (top_whence bytes offset r e).held in
      ap all_in (top_hit bytes offset r h e) ∙ all_in_lacks r _ (omega arith)

  -- it has bytes
  begun : (bytes : List ℕ) (offset : ℕ) (r : Span) → Complete bytes offset r → 0 < length bytes
  begun bytes offset r c = let some = c.some in let enough = c.enough in omega arith

  pub arrived_hit : (bytes : List ℕ) (offset : ℕ) (r : Span) → Complete bytes offset r
      → arrived rules bytes offset ≡ r ∷ arrived rules (drop r.declared bytes) (offset + r.declared)
  arrived_hit bytes offset r c =
      let held : r.held ≡ min r.declared (length bytes) = (top_whence bytes offset r c.is).held in
      let full : r.declared ≤ r.held = let enough = c.enough in omega arith in
      ap all_in (top_hit bytes offset r (begun bytes offset r c) c.is) ∙ all_in_hit r _ full

  -- something holds of all bytes where it holds of those that have no record all in, and of those that have one if it does of the rest
  pub by_arrived : (P : List ℕ → ℕ → Type 0)
      → ((bytes : List ℕ) (offset : ℕ) → arrived rules bytes offset ≡ [] → P bytes offset)
      → ((bytes : List ℕ) (offset : ℕ) (r : Span) → Complete bytes offset r → P (drop r.declared bytes) (offset + r.declared) → P bytes offset)
      → (bytes : List ℕ) (offset : ℕ) → P bytes offset
  by_arrived P waits goes bytes offset = within_length (length bytes) bytes offset (omega arith)
    where
      -- by the try at the start, the law being known of shorter bytes
      by : (n : ℕ) → ((bytes : List ℕ) (offset : ℕ) → length bytes ≤ n → P bytes offset)
          → (bytes : List ℕ) (offset : ℕ) → length bytes ≤ suc n → 0 < length bytes → (v : Try) → top_try bytes offset ≡ v → P bytes offset
      by n known bytes offset h some (none l o head) e = waits bytes offset (arrived_stop bytes offset some e)
      by n known bytes offset h some (hit r) e =
          let declares : 0 < r.declared = (top_whence bytes offset r e).some in
          ⊎_elim
          (λ (enough : r.declared ≤ length bytes).
          goes bytes offset r (record { is = e; some = declares; enough = enough })
          (known (drop r.declared bytes) (offset + r.declared) (simp length-drop (omega arith))))
          (λ (short : length bytes < r.declared). waits bytes offset (arrived_lacks bytes offset r some e short))
          (le_or_lt r.declared (length bytes))

      within_length : (n : ℕ) (bytes : List ℕ) (offset : ℕ) → length bytes ≤ n → P bytes offset
      within_length zero bytes offset h = waits bytes offset (arrived_end bytes offset h)
      within_length (suc n) bytes offset h =
          ⊎_elim
          (λ (end : length bytes ≤ 0). waits bytes offset (arrived_end bytes offset end))
          (λ (some : 0 < length bytes). by n (within_length n) bytes offset h some (top_try bytes offset) refl)
          (le_or_lt (length bytes) 0)

  -- one of the two is so
  pub begins : (bytes : List ℕ) (offset : ℕ) → (arrived rules bytes offset ≡ []) ⊎ ((r : Span) × Complete bytes offset r)
  begins = by_arrived (λ bytes offset. (arrived rules bytes offset ≡ []) ⊎ ((r : Span) × Complete bytes offset r))
      (λ bytes offset e. inl e)
      (λ bytes offset r c known. inr (r, c))

  -- and not both
  pub waits_none : (bytes : List ℕ) (offset : ℕ) (r : Span) → arrived rules bytes offset ≡ [] → Complete bytes offset r → ⊥
  waits_none bytes offset r e c = let first = arrived_hit bytes offset r c in let z : ◌≡◌ {A = ℕ} 0 1 = cc in omega arith

  -- a record that is all in is so in all bytes that have its header and length
  pub complete_alike : (bs cs : List ℕ) (offset : ℕ) (r : Span) → head_of rules cs ≡ head_of rules bs → Complete bs offset r → r.declared ≤ length cs → Complete cs offset r
  complete_alike bs cs offset r e c enough =
      let head : head_of rules bs ≡ Ok (summary_in r) = (top_whence bs offset r c.is).is in
      let same : top_try cs offset ≡ top_try bs offset =
      ap (try_of 0 top offset (length cs)) (e ∙ head)
      ∙ left_counts offset (length cs) (length bs) (summary_in r) enough c.enough
      ∙ ap (try_of 0 top offset (length bs)) (sym head) in
      record { is = same ∙ c.is; some = c.some; enough = enough }

  -- ---- the bytes of the records that are all in

  -- what stands past them
  abbrev pub rest : List ℕ → ℕ → List ℕ
  rest bytes offset = drop (extent (arrived rules bytes offset)) bytes

  -- and where
  abbrev pub rest_at : List ℕ → ℕ → ℕ
  rest_at bytes offset = offset + extent (arrived rules bytes offset)

  -- past the first of them, it is the rest of what follows
  pub rest_hit : (bytes : List ℕ) (offset : ℕ) (r : Span) → Complete bytes offset r
      → (rest bytes offset ≡ rest (drop r.declared bytes) (offset + r.declared)) × (rest_at bytes offset ≡ rest_at (drop r.declared bytes) (offset + r.declared))
  unfolding extent
  rest_hit bytes offset r c =
      let after = arrived rules (drop r.declared bytes) (offset + r.declared) in (
        rw (arrived_hit bytes offset r c) (sym (drop-drop (extent after) r.declared bytes)),
        rw (arrived_hit bytes offset r c) (omega arith),
      )

  pub rest_none : (bytes : List ℕ) (offset : ℕ) → arrived rules bytes offset ≡ [] → (rest bytes offset ≡ bytes) × (rest_at bytes offset ≡ offset)
  unfolding extent
  rest_none bytes offset e = (rw e, rw e (add-zero offset))

  -- nothing of the rest is all in
  pub rest_waits : (bytes : List ℕ) (offset : ℕ) → arrived rules (rest bytes offset) (rest_at bytes offset) ≡ []
  rest_waits = by_arrived (λ bytes offset. arrived rules (rest bytes offset) (rest_at bytes offset) ≡ [])
      (λ bytes offset e. let q = rest_none bytes offset e in rw (q.0, q.1) e)
      (λ bytes offset r c known. let q = rest_hit bytes offset r c in rw (q.0, q.1) known)

  -- what is all in, then the rest
  pub arrived_then : (bytes : List ℕ) (offset : ℕ)
      → top_tries rules bytes offset ≡ map hit (arrived rules bytes offset) ++ top_tries rules (rest bytes offset) (rest_at bytes offset)
  arrived_then = by_arrived (λ bytes offset. top_tries rules bytes offset ≡ map hit (arrived rules bytes offset) ++ top_tries rules (rest bytes offset) (rest_at bytes offset))
      (λ bytes offset e. let q = rest_none bytes offset e in rw (q.0, q.1, e))
      (λ bytes offset r c known.
      let q = rest_hit bytes offset r c in
      top_hit bytes offset r (begun bytes offset r c) c.is
      ∙ ap (λ (vs : List Try). hit r ∷ vs) known
      ∙ rw (q.0, q.1, arrived_hit bytes offset r c))

  -- they have no more bytes than there are, and each has one
  pub extent_within : (bytes : List ℕ) (offset : ℕ) → extent (arrived rules bytes offset) ≤ length bytes
  unfolding extent
  extent_within = by_arrived (λ bytes offset. extent (arrived rules bytes offset) ≤ length bytes)
      (λ bytes offset e. rw e (omega arith))
      (λ bytes offset r c known.
      let enough = c.enough in
      let after = rw (length-drop r.declared bytes) at known in
      rw (arrived_hit bytes offset r c) (omega arith))

  pub rows_within : (bytes : List ℕ) (offset : ℕ) → length (arrived rules bytes offset) ≤ extent (arrived rules bytes offset)
  unfolding extent
  rows_within = by_arrived (λ bytes offset. length (arrived rules bytes offset) ≤ extent (arrived rules bytes offset))
      (λ bytes offset e. rw e (omega arith))
      (λ bytes offset r c known. let some = c.some in rw (arrived_hit bytes offset r c) (omega arith))

  -- ---- with more bytes

  -- a record that is all in does not change
  complete_longer : (bytes more : List ℕ) (offset : ℕ) (r : Span) → Complete bytes offset r → Complete (bytes ++ more) offset r
  complete_longer bytes more offset r c =
      let enough = c.enough in
      let head : head_of rules bytes ≡ Ok (summary_in r) = (top_whence bytes offset r c.is).is in
      complete_alike bytes (bytes ++ more) offset r (head_longer bytes more rules head ∙ sym head) c (simp length-append (omega arith))

  pub arrived_longer : (more bytes : List ℕ) (offset : ℕ)
      → arrived rules (bytes ++ more) offset ≡ arrived rules bytes offset ++ arrived rules (rest bytes offset ++ more) (rest_at bytes offset)
  arrived_longer more = by_arrived (λ bytes offset. arrived rules (bytes ++ more) offset ≡ arrived rules bytes offset ++ arrived rules (rest bytes offset ++ more) (rest_at bytes offset))
      (λ bytes offset e. let q = rest_none bytes offset e in rw (q.0, q.1, e))
      (λ bytes offset r c known.
      let q = rest_hit bytes offset r c in
      arrived_hit (bytes ++ more) offset r (complete_longer bytes more offset r c)
      ∙ ap (λ (rs : List Span). r ∷ rs) (ap (λ (bs : List ℕ). arrived rules bs (offset + r.declared)) (drop-append-le r.declared bytes more c.enough) ∙ known)
      ∙ rw (q.0, q.1, arrived_hit bytes offset r c))

  -- ---- where nothing is all in

  -- there is one try at most
  pub top_alone : (bytes : List ℕ) (offset : ℕ) → 0 < length bytes → arrived rules bytes offset ≡ [] → top_tries rules bytes offset ≡ top_try bytes offset ∷ []
  top_alone bytes offset some waits = by (top_try bytes offset) refl
    where
      by : (v : Try) → top_try bytes offset ≡ v → top_tries rules bytes offset ≡ top_try bytes offset ∷ []
      by (none l o head) e = top_stop bytes offset some e
      by (hit r) e = ⊎_elim
          (λ (enough : r.declared ≤ length bytes).
          absurd (waits_none bytes offset r waits (record { is = e; some = (top_whence bytes offset r e).some; enough = enough })))
          (λ (short : length bytes < r.declared).
          top_hit bytes offset r some e
          ∙ rw (e, drop_of_length-le bytes {i = r.declared} (omega arith))
          (ap (λ (vs : List Try). hit r ∷ vs) (top_end [] (offset + r.declared) (omega arith))))
          (le_or_lt r.declared (length bytes))
