-- Sizes and layouts by what the flags and the bytes are: what is known of a size that is found, and of the types that have none.
-- By the tests of the definitions, in their order. Assumes nothing.
use mathlib.Core.Path.{◌≡◌, refl, sym, ap, ◌∙◌}
use mathlib.Core.Bool.{Bool, true, false, cond, ◌||◌}
use mathlib.Core.List.{List, [], ◌∷◌}
use mathlib.Core.Logic.{◌⊎◌, ⊎_elim, inl, inr}
use Prim.Native.Nat.{ℕ, zero, suc, ◌+◌, ◌*◌, ◌%◌, ◌≤◌, ◌<◌}
use native.Mathlib.Omega.{arith}
use lib.Dec.{eqb, ltb, leb}
use lib.ListN.{length, get_or, get_or-eq_default}
use borrow.Author.Tests.{lt-ltb, le-ltb, ltb-false, leb-true, leb-false, eqb-true, eqb-false}
use Rattle.std.proofs.Common.{Result, Ok, Err}
use Rattle.le.specs.Le.{le}
use Rattle.le.proofs.Laws.{le_lt}
use Rattle.basics.specs.Bits.{has}
use Rattle.rules.specs.Rules.{legacy_server, legacy_gpu, sizes_in_bytes}
use Rattle.header_judge.specs.Version.{header_type}
use Rattle.header_judge.specs.Head.{legacy, record_size, extended_size, sizes_end, unit, declared_of, type_layout, layout_of, no_size, size_for, count_of, layout_size, sized, size_of, Complete}
use Rattle.header_judge.specs.Steps.{Measured, HeadBounds}
use Rattle.header_judge.specs.declared.NoRecord.{NoRecord}
use Rattle.header_judge.specs.declared.NoRecord.TheVariants.{Ended, BadHeader, BadType}
use Rattle.header_judge.specs.declared.Layout.{Layout}
use Rattle.header_judge.specs.declared.Layout.TheVariants.{Zero, One, Two, Three, Four, Five, Six, LegacyServer, LegacyGpu, Bad}

-- ---- the size fields

module _ (bs : List ℕ) (flags : ℕ) where
  pub legacy_sizes : legacy flags ≡ true → (le 2 bs 16 ≡ record_size bs flags) × (0 ≡ extended_size bs flags)
  legacy_sizes e = (rw e, rw e)

  pub plain_sizes : legacy flags ≡ false → (le 2 bs 4 ≡ record_size bs flags) × (le 2 bs 6 ≡ extended_size bs flags)
  plain_sizes e = (rw e, rw e)

module _ (flags : ℕ) where
  pub legacy_end : legacy flags ≡ true → sizes_end flags ≡ 18
  legacy_end e = rw e

  pub plain_end : legacy flags ≡ false → sizes_end flags ≡ 8
  plain_end e = rw e

  pub sizes_most : sizes_end flags ≤ 18
  sizes_most = by (legacy flags)
    where
      by : (b : Bool) → cond b 18 8 ≤ 18
      by true = omega arith
      by false = omega arith

  pub unit_one : has flags sizes_in_bytes ≡ true → unit flags ≡ 1
  unit_one e = rw e

  pub unit_four : has flags sizes_in_bytes ≡ false → unit flags ≡ 4
  unit_four e = rw e

-- a record of bytes declares 524,280 at most
pub declared_most : (bs : List ℕ) → ((k : ℕ) → get_or bs k 0 < 256) → (flags : ℕ) → declared_of bs flags ≤ 524280
unfolding declared_of
declared_most bs bytes flags = by (legacy flags) (has flags sizes_in_bytes)
  where
    by : (l b : Bool) → (cond l (le 2 bs 16) (le 2 bs 4) + cond l 0 (le 2 bs 6)) * cond b 1 4 ≤ 524280
    by true true = omega (arith, le_lt bs bytes 16 2)
    by true false = omega (arith, le_lt bs bytes 16 2)
    by false true = omega (arith, le_lt bs bytes 4 2, le_lt bs bytes 6 2)
    by false false = omega (arith, le_lt bs bytes 4 2, le_lt bs bytes 6 2)

-- ---- the count

module _ (bs : List ℕ) where
  pub count_short : length bs < 28 → 0 ≡ count_of bs
  count_short h = rw (lt-ltb (length bs) 28 h)

  pub count_there : 28 ≤ length bs → (half : ℕ) → half ≡ le 2 bs 26 → half % 128 ≡ count_of bs
  count_there h half e = rw (le-ltb (length bs) 28 h, e)

  pub count_most : count_of bs ≤ 127
  count_most = by (ltb (length bs) 28)
    where
      by : (b : Bool) → cond b 0 (le 2 bs 26 % 128) ≤ 127
      by true = omega arith
      by false = omega arith

-- ---- the layout

pub layout_bad : (t : ℕ) → 7 ≤ t → Bad ≡ type_layout t
layout_bad t h = sym (get_or-eq_default (Zero ∷ One ∷ Two ∷ Three ∷ Four ∷ Five ∷ Six ∷ []) Bad h)

module _ (word flags : ℕ) where
  pub layout_server : has flags legacy_server ≡ true → LegacyServer ≡ layout_of word flags
  layout_server e = rw e

  pub layout_gpu : has flags legacy_server ≡ false → has flags legacy_gpu ≡ true → LegacyGpu ≡ layout_of word flags
  layout_gpu e f = rw (e, f)

  pub layout_typed : has flags legacy_server ≡ false → has flags legacy_gpu ≡ false → type_layout (header_type word) ≡ layout_of word flags
  layout_typed e f = rw (e, f)

  -- a legacy layout, by either flag
  legacy_size : (count : ℕ) → legacy flags ≡ true → 32 ≡ size_for (layout_of word flags) count
  legacy_size count e = by (has flags legacy_server) (has flags legacy_gpu) e
    where
      by : (a b : Bool) → (a || b) ≡ true → 32 ≡ size_for (cond a LegacyServer (cond b LegacyGpu (type_layout (header_type word)))) count
      by true b e = refl
      by false true e = refl
      by false false e = absurd (let z : ◌≡◌ {A = ℕ} 0 1 = cc in omega arith)

  plain_layout : legacy flags ≡ false → type_layout (header_type word) ≡ layout_of word flags
  plain_layout e = by (has flags legacy_server) (has flags legacy_gpu) e
    where
      by : (a b : Bool) → (a || b) ≡ false → type_layout (header_type word) ≡ cond a LegacyServer (cond b LegacyGpu (type_layout (header_type word)))
      by true b e = absurd (let z : ◌≡◌ {A = ℕ} 0 1 = cc in omega arith)
      by false true e = absurd (let z : ◌≡◌ {A = ℕ} 0 1 = cc in omega arith)
      by false false e = refl

-- ---- a size that is found

module _ (bs : List ℕ) (word flags : ℕ) where
  pub size_short : length bs < sizes_end flags → Err BadHeader ≡ size_of bs word flags
  unfolding size_of
  size_short h = rw (lt-ltb (length bs) (sizes_end flags) h)

  -- where the size fields are there, the layout's size decides
  pub size_sized : sizes_end flags ≤ length bs → sized bs word (layout_size bs word flags) ≡ size_of bs word flags
  unfolding size_of
  size_sized h = rw (le-ltb (length bs) (sizes_end flags) h)

  pub size_legacy : legacy flags ≡ true → sized bs word 32 ≡ size_of bs word flags
  size_legacy e = by (leb 18 (length bs)) refl
    where
      by : (b : Bool) → leb 18 (length bs) ≡ b → sized bs word 32 ≡ size_of bs word flags
      by true t =
          let h : 18 ≤ length bs = leb-true 18 (length bs) t in
          ap (λ (size : ℕ). sized bs word size) (legacy_size word flags (count_of bs) e) ∙ size_sized (omega (arith, legacy_end flags e))
      by false t =
          let h : length bs < 18 = leb-false 18 (length bs) t in
          rw (lt-ltb (length bs) 32 (omega arith)) (size_short (omega (arith, legacy_end flags e)))

  pub size_typed : legacy flags ≡ false → 8 ≤ length bs → sized bs word (size_for (type_layout (header_type word)) (count_of bs)) ≡ size_of bs word flags
  size_typed e h =
      let ends : sizes_end flags ≡ 8 = plain_end flags e in
      ap (λ (l : Layout). sized bs word (size_for l (count_of bs))) (plain_layout word flags e) ∙ size_sized (omega arith)

  -- where the size fields and the header are there, the type alone decides
  pub size_long : sizes_end flags ≤ length bs → layout_size bs word flags ≤ length bs
      → size_of bs word flags ≡ cond (eqb (layout_size bs word flags) no_size) (Err (BadType (header_type word))) (Ok (layout_size bs word flags))
  unfolding size_of
  size_long h g = rw (le-ltb (length bs) (sizes_end flags) h, le-ltb (length bs) (layout_size bs word flags) g)

  -- a size that is found is that of the layout, and its bytes are there
  pub record Found (size : ℕ) : Type 0 where
    pub sizes : sizes_end flags ≤ length bs
    pub is : size ≡ layout_size bs word flags
    pub within : layout_size bs word flags ≤ length bs
    pub some : layout_size bs word flags ≡ no_size → ⊥

  pub size_found : {size : ℕ} → size_of bs word flags ≡ Ok size → Found size
  unfolding size_of
  size_found {size = found} h = by (ltb (length bs) (sizes_end flags)) refl (eqb size no_size) refl (ltb (length bs) size) refl h
    where
      size : ℕ
      size = layout_size bs word flags

      by : (b : Bool) → ltb (length bs) (sizes_end flags) ≡ b → (j : Bool) → eqb size no_size ≡ j → (k : Bool) → ltb (length bs) size ≡ k
          → ◌≡◌ {A = Result ℕ NoRecord} (cond b (Err BadHeader) (cond j (Err (BadType (header_type word))) (cond k (Err BadHeader) (Ok size)))) (Ok found)
          → Found found
      by true e j f k g h = absurd (let z : ◌≡◌ {A = ℕ} 0 1 = cc in omega arith)
      by false e true f k g h = absurd (let z : ◌≡◌ {A = ℕ} 0 1 = cc in omega arith)
      by false e false f true g h = absurd (let z : ◌≡◌ {A = ℕ} 0 1 = cc in omega arith)
      by false e false f false g h =
          record {
            sizes = ltb-false (length bs) (sizes_end flags) e;
            is = cc;
            within = ltb-false (length bs) size g;
            some = eqb-false size no_size f;
          }

  pub complete : {size : ℕ} → size_of bs word flags ≡ Ok size → Complete bs word flags
  complete h = h ∙ ap Ok (size_found h).is

-- the bytes of its layout are there
pub size_there : (bs : List ℕ) (word flags : ℕ) {l : Layout} → l ≡ layout_of word flags → Complete bs word flags → size_for l (count_of bs) ≤ length bs
size_there bs word flags e h = rw e (size_found bs word flags h).within

-- ---- the bounds of a size

-- no size, or one from 8 to 536
size_bounds : (l : Layout) (count : ℕ) → count ≤ 127 → (size_for l count ≡ 0) ⊎ ((8 ≤ size_for l count) × (size_for l count ≤ 536))
size_bounds Zero count h = inr (omega arith)
size_bounds One count h = inr (omega arith)
size_bounds Two count h = inr (omega arith)
size_bounds Three count h = inr (omega arith)
size_bounds Four count h = inr (omega arith)
size_bounds Five count h = inr (omega arith)
size_bounds Six count h = inr (omega arith)
size_bounds LegacyServer count h = inr (omega arith)
size_bounds LegacyGpu count h = inr (omega arith)
size_bounds Bad count h = inl refl

pub size_most : (l : Layout) (count : ℕ) → count ≤ 127 → size_for l count ≤ 536
size_most l count h = ⊎_elim (λ none. omega arith) (λ some. some.1) (size_bounds l count h)

-- the size that `size_of` finds
pub measured : (bs : List ℕ) (word flags : ℕ) → Measured bs flags (size_of bs word flags)
measured bs word flags = by (size_of bs word flags) refl
  where
    by : (r : Result ℕ NoRecord) → size_of bs word flags ≡ r → Measured bs flags r
    by (Err why) e = tt
    by (Ok size) e =
        let found = size_found bs word flags e in
        ⊎_elim
        (λ none. absurd (found.some none))
        (λ some. record { least = rw found.is some.0; most = rw found.is some.1; within = rw found.is found.within; sizes = found.sizes })
        (size_bounds (layout_of word flags) (count_of bs) (count_most bs))

-- ---- a bad type

-- a layout without a size is the bad one
size_none : (l : Layout) (count : ℕ) → size_for l count ≡ 0 → l ≡ Bad
size_none Zero count e = absurd (omega arith)
size_none One count e = absurd (omega arith)
size_none Two count e = absurd (omega arith)
size_none Three count e = absurd (omega arith)
size_none Four count e = absurd (omega arith)
size_none Five count e = absurd (omega arith)
size_none Six count e = absurd (omega arith)
size_none LegacyServer count e = absurd (omega arith)
size_none LegacyGpu count e = absurd (omega arith)
size_none Bad count e = refl

bad_seven : (t : ℕ) → type_layout t ≡ Bad → 7 ≤ t
bad_seven zero e = absurd (let z : ◌≡◌ {A = ℕ} 0 1 = cc in omega arith)
bad_seven (suc zero) e = absurd (let z : ◌≡◌ {A = ℕ} 0 1 = cc in omega arith)
bad_seven (suc (suc zero)) e = absurd (let z : ◌≡◌ {A = ℕ} 0 1 = cc in omega arith)
bad_seven (suc (suc (suc zero))) e = absurd (let z : ◌≡◌ {A = ℕ} 0 1 = cc in omega arith)
bad_seven (suc (suc (suc (suc zero)))) e = absurd (let z : ◌≡◌ {A = ℕ} 0 1 = cc in omega arith)
bad_seven (suc (suc (suc (suc (suc zero))))) e = absurd (let z : ◌≡◌ {A = ℕ} 0 1 = cc in omega arith)
bad_seven (suc (suc (suc (suc (suc (suc zero)))))) e = absurd (let z : ◌≡◌ {A = ℕ} 0 1 = cc in omega arith)
bad_seven (suc (suc (suc (suc (suc (suc (suc t))))))) e = omega arith

-- the bounds of the type that is told
pub none_bounds : (bs : List ℕ) (word flags : ℕ) {why : NoRecord} → size_of bs word flags ≡ Err why → HeadBounds (Err why)
unfolding size_of
none_bounds bs word flags {why = Ended ending} h = tt
none_bounds bs word flags {why = BadHeader} h = tt
none_bounds bs word flags {why = BadType t} h = by (ltb (length bs) (sizes_end flags)) (eqb size no_size) refl (ltb (length bs) size) (legacy flags) refl h
  where
    size : ℕ
    size = layout_size bs word flags

    by : (b j : Bool) → eqb size no_size ≡ j → (k l : Bool) → legacy flags ≡ l
        → ◌≡◌ {A = Result ℕ NoRecord} (cond b (Err BadHeader) (cond j (Err (BadType (header_type word))) (cond k (Err BadHeader) (Ok size)))) (Err (BadType t))
        → (7 ≤ t) × (t < 16)
    by true j e k l f h = absurd (let z : ◌≡◌ {A = ℕ} 0 1 = cc in omega arith)
    by false false e true l f h = absurd (let z : ◌≡◌ {A = ℕ} 0 1 = cc in omega arith)
    by false false e false l f h = absurd (let z : ◌≡◌ {A = ℕ} 0 1 = cc in omega arith)
    by false true e k true f h = absurd (omega (arith, eqb-true size no_size e, legacy_size word flags (count_of bs) f))
    by false true e k false f h =
        let told : header_type word ≡ t = cc in
        let bad : type_layout (header_type word) ≡ Bad = plain_layout word flags f ∙ size_none (layout_of word flags) (count_of bs) (eqb-true size no_size e) in
        (rw (← told) (bad_seven (header_type word) bad), omega arith)
