-- A word whose slot is free has no flags.
-- By induction over the rows: one that applied would have taken the word's slot, and a slot that is taken stays so. Assumes nothing.
use mathlib.Core.Path.{◌≡◌, refl, ap, sym, ◌∙◌}
use mathlib.Core.List.{List, [], ◌∷◌, map}
use mathlib.Core.Bool.{Bool, true, false, cond}
use Prim.Native.Nat.{ℕ, ◌*◌, ◌/◌, ◌%◌, ◌<◌}
use native.Mathlib.Omega.{arith}
use lib.Bits.{bit_and, bit_or}
use lib.Dec.{eqb}
use lib.ListN.{length, get_or, set, replicate, length-set}
use lib.Seq.{get_or-set_same, get_or-set_other}
use borrow.Author.Tests.{eqb-true, eqb-false}
use Rattle.std.specs.List.{fold}
use Rattle.rules.specs.Rules.{Rule, row, applies, rules_of, with_rules, flags_of}
use Rattle.sieve.specs.Sieve.{shared_by, slot_of, taken_by, is_free, Sifts}
use Rattle.sieve.specs.declared.Sieve.{Sieve}
use Rattle.sieve.proofs.Masks.{Part, InEach, under_part, shared_each}

-- ---- slots

abbrev Taken : List Bool → ℕ → Type 0
Taken slots i = get_or slots i false ≡ false

stays_taken : (slots : List Bool) (i j : ℕ) → i < length slots → Taken slots i → Taken (set slots j false) i
stays_taken slots i j h s = by (eqb j i) refl
  where
    by : (b : Bool) → eqb j i ≡ b → Taken (set slots j false) i
    by true e = rw (eqb-true j i e) (get_or-set_same slots i false false h)
    by false e = get_or-set_other slots j i false false (λ z. eqb-false j i e (sym z)) ∙ s

rows_keep_taken : (mask : ℕ) (slots : List Bool) (i : ℕ) (rs : List Rule) → i < length slots → Taken slots i → Taken (taken_by mask slots rs) i
unfolding taken_by
rows_keep_taken mask slots i [] h s = s
rows_keep_taken mask slots i (r ∷ rs) h s =
    let j = slot_of mask r.wanted in
    rows_keep_taken mask (set slots j false) i rs (rw (length-set slots j false) h) (stays_taken slots i j h s)

-- a row that applies takes the word's slot
applied_takes : (word mask : ℕ) (slots : List Bool) (r : Rule) (rs : List Rule) → length slots ≡ 64 → Part mask r.mask → applies word r ≡ true
    → Taken (taken_by mask (set slots (slot_of mask r.wanted) false) rs) (slot_of mask word)
applied_takes word mask slots r rs l h e =
    let same : slot_of mask r.wanted ≡ slot_of mask word =
    ap (λ (n : ℕ). n * 2654435769 / 67108864 % 64) (under_part word r.mask r.wanted mask (eqb-true (bit_and word r.mask) r.wanted e) h) in
    let i = slot_of mask word in
    let within : i < 64 = omega arith in
    rw same
    (rows_keep_taken mask (set slots i false) i rs (rw (length-set slots i false) (omega arith)) (get_or-set_same slots i false false (omega arith)))

-- ---- flags

-- rows change no flags of a word whose slot they leave free
free_unchanged : (word mask all : ℕ) (slots : List Bool) (rs : List Rule) → length slots ≡ 64 → InEach mask rs
    → (Taken (taken_by mask slots rs) (slot_of mask word) → ⊥) → with_rules word all rs ≡ all
unfolding taken_by with_rules InEach
free_unchanged word mask all slots [] l h f = refl
free_unchanged word mask all slots (r ∷ rs) l h f =
    by (applies word r) refl (free_unchanged word mask all (set slots (slot_of mask r.wanted) false) rs (length-set slots (slot_of mask r.wanted) false ∙ l) h.1 f)
  where
    by : (b : Bool) → applies word r ≡ b → with_rules word all rs ≡ all → with_rules word (cond b (bit_or all r.flags) all) rs ≡ all
    by true k rest = absurd (f (applied_takes word mask slots r rs l h.0 k))
    by false k rest = rest

pub free_flags : (rules : List ℕ) (sieve : Sieve) (word : ℕ) → Sifts rules sieve → is_free sieve word ≡ true → 0 ≡ flags_of rules word
unfolding flags_of
free_flags rules sieve word s e =
    let f : Taken sieve.slots (slot_of sieve.mask word) → ⊥ = λ taken. cc in
    sym (free_unchanged word sieve.mask 0 (replicate 64 true) (rules_of rules) refl (rw s.0 (shared_each 4294967295 (rules_of rules))) (rw s.1 at f))

-- ---- rows as arrays

pub fold_shared : (mask : ℕ) (rows : List (List ℕ)) → fold (λ shared numbers. bit_and shared (row numbers).mask) mask rows ≡ shared_by mask (map row rows)
unfolding shared_by
fold_shared mask [] = refl
fold_shared mask (r ∷ rows) = fold_shared (bit_and mask (row r).mask) rows
