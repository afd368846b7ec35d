-- The status words as a loop reads them: a run read one word further, and the zeros past it one fewer.
-- By induction over the run. Assumes nothing.
use mathlib.Core.Path.{◌≡◌, refl, sym, ap, ap₂, ◌∙◌}
use mathlib.Core.List.{List, [], ◌∷◌, ◌++◌}
use Prim.Native.Nat.{ℕ, suc, ◌+◌, ◌*◌, ◌-◌, ◌<◌}
use native.Mathlib.Omega.{arith}
use lib.ListN.{length, set, replicate, length-append}
use lib.Seq.{set_at, append_snoc}
use Rattle.le.specs.Le.{le}
use Rattle.layout.specs.Fields.{Field, field, read_all}
use Rattle.layout.specs.Runs.{cells}
use Rattle.layout.proofs.Fields.{length_read}
use Rattle.layout.proofs.Runs.{length-cells, last_cell, read_append}
use Rattle.header_judge.specs.declared.Layout.{Layout}
use Rattle.header_judge.specs.declared.Layout.TheVariants.{Zero, One, Two, Three, Four, Five, Six, LegacyServer, LegacyGpu, Bad}
use Rattle.header_judge.specs.Head.{count_of}
use Rattle.header.specs.Layouts.{padded, statuses_from}
use Rattle.header.specs.Header.{numbers_of}

-- the last number of a run
read_last : (bs : List ℕ) (at w n : ℕ) → read_all (cells at w (suc n)) bs ≡ read_all (cells at w n) bs ++ (le w bs (at + w * n) ∷ [])
unfolding read_all
read_last bs at w n =
    let e : 0 + n ≡ n = omega arith in
    ap (λ (fs : List Field). read_all fs bs) (last_cell at w 0 n)
    ∙ read_append (cells at w n) (field (at + w * (0 + n)) w ∷ []) bs
    ∙ ap (λ (k : ℕ). read_all (cells at w n) bs ++ (le w bs (at + w * k) ∷ [])) e

pub length-words : (bs : List ℕ) (n : ℕ) → length (read_all (cells 28 4 n) bs) ≡ n
length-words bs n = length_read (cells 28 4 n) bs ∙ length-cells 28 4 0 n

-- a word stored after n others
padded_more : (ws : List ℕ) (n x : ℕ) → length ws ≡ n → n < 127 → set (padded ws) n x ≡ padded (ws ++ (x ∷ []))
padded_more ws n x e h =
    let zeros : 127 - length ws ≡ suc (127 - suc n) = omega arith in
    let left : 127 - length (ws ++ (x ∷ [])) ≡ 127 - suc n = simp length-append (omega arith) in
    ap (λ (k : ℕ). set (ws ++ replicate k 0) n x) zeros
    ∙ set_at ws 0 (replicate (127 - suc n) 0) x n e
    ∙ sym (append_snoc ws x (replicate (127 - suc n) 0))
    ∙ ap (λ (k : ℕ). (ws ++ (x ∷ [])) ++ replicate k 0) (sym left)

-- a turn of the loop
pub words_more : (bs ws : List ℕ) (n x : ℕ) → n < 127 → ws ≡ padded (read_all (cells 28 4 n) bs) → x ≡ le 4 bs (28 + 4 * n)
    → set ws n x ≡ padded (read_all (cells 28 4 (n + 1)) bs)
words_more bs ws n x h e f =
    let next : suc n ≡ n + 1 = omega arith in
    ap₂ (λ (l : List ℕ) (v : ℕ). set l n v) e f
    ∙ padded_more (read_all (cells 28 4 n) bs) n (le 4 bs (28 + 4 * n)) (length-words bs n) h
    ∙ ap padded (sym (read_last bs 28 4 n))
    ∙ ap (λ (k : ℕ). padded (read_all (cells 28 4 k) bs)) next

-- ---- the status words of a layout

pub statuses_six : (bs : List ℕ) → padded (read_all (cells 28 4 (count_of bs)) bs) ≡ statuses_from (numbers_of bs Six)
unfolding numbers_of read_all
statuses_six bs = refl

pub statuses_none : (bs : List ℕ) (l : Layout) → (l ≡ Six → ⊥) → replicate 127 0 ≡ statuses_from (numbers_of bs l)
unfolding numbers_of read_all
statuses_none bs Zero f = refl
statuses_none bs One f = refl
statuses_none bs Two f = refl
statuses_none bs Three f = refl
statuses_none bs Four f = refl
statuses_none bs Five f = refl
statuses_none bs Six f = absurd (f refl)
statuses_none bs LegacyServer f = refl
statuses_none bs LegacyGpu f = refl
statuses_none bs Bad f = refl
