-- What is written of a table's fields is read back, and what is read and written back changes nothing.
-- Each law is one induction over the table. Assumes nothing.
use mathlib.Core.Path.{◌≡◌, refl, ap, ap₂, ◌∙◌}
use mathlib.Core.List.{List, [], ◌∷◌}
use mathlib.Core.Logic.{inl}
use Prim.Native.Nat.{ℕ, suc, ◌+◌, ◌≤◌, ◌<◌}
use native.Mathlib.Nat.{mod-eq_of_lt}
use native.Mathlib.Omega.{arith}
use lib.ListN.{length, get_or}
use Rattle.le.specs.Le.{le, put}
use Rattle.le.proofs.Laws.{length-put, le-put, le-put_other, put-le}
use Rattle.layout.specs.Fields.{Field, Fits, Below, read_all, write_all}

-- the fields end by `n`
pub fits_end : (lo : ℕ) (fs : List Field) (n : ℕ) → Fits lo fs n → lo ≤ n
fits_end lo [] n p = p
fits_end lo (f ∷ fs) n p = let h = fits_end (f.at + f.width) fs n p.1 in omega arith

-- ---- what a write leaves alone

pub length_write : (fs : List Field) (vs bs : List ℕ) → length (write_all fs vs bs) ≡ length bs
unfolding write_all
length_write [] vs bs = refl
length_write (f ∷ fs) [] bs = refl
length_write (f ∷ fs) (v ∷ vs) bs = length_write fs vs (put f.width bs f.at v) ∙ length-put f.width bs f.at v

module _ (n : ℕ) where
  -- a number before the fields
  le_write : (w at lo : ℕ) (fs : List Field) (vs bs : List ℕ) → at + w ≤ lo → Fits lo fs n → le w (write_all fs vs bs) at ≡ le w bs at
  unfolding write_all
  le_write w at lo [] vs bs h p = refl
  le_write w at lo (f ∷ fs) [] bs h p = refl
  le_write w at lo (f ∷ fs) (v ∷ vs) bs h p =
      le_write w at (f.at + f.width) fs vs (put f.width bs f.at v) (omega arith) p.1
      ∙ le-put_other w f.width bs at f.at v (inl (omega arith))

  -- ---- the round trips

  -- what was written is read
  pub read_write : (lo : ℕ) (fs : List Field) (vs bs : List ℕ) → Fits lo fs n → n ≤ length bs → Below fs vs → read_all fs (write_all fs vs bs) ≡ vs
  unfolding read_all write_all
  read_write lo [] [] bs p h b = refl
  read_write lo [] (v ∷ vs) bs p h b = absurd b
  read_write lo (f ∷ fs) [] bs p h b = absurd b
  read_write lo (f ∷ fs) (v ∷ vs) bs p h b =
      let end = fits_end (f.at + f.width) fs n p.1 in
      let next = put f.width bs f.at v in
      ap₂ (λ (x : ℕ) (xs : List ℕ). x ∷ xs)
      (le_write f.width f.at (f.at + f.width) fs vs next (omega arith) p.1
      ∙ le-put f.width bs f.at v (omega arith)
      ∙ mod-eq_of_lt b.0)
      (read_write (f.at + f.width) fs vs next p.1 (omega (arith, length-put f.width bs f.at v)) b.1)

pub length_read : (fs : List Field) (bs : List ℕ) → length (read_all fs bs) ≡ length fs
unfolding read_all
length_read [] bs = refl
length_read (f ∷ fs) bs = ap suc (length_read fs bs)

module _ (cs : List ℕ) (bytes : (k : ℕ) → get_or cs k 0 < 256) where
  -- what was read, written where it was read, changes nothing
  pub write_back : (fs : List Field) → write_all fs (read_all fs cs) cs ≡ cs
  unfolding read_all write_all
  write_back [] = refl
  write_back (f ∷ fs) = ap (write_all fs (read_all fs cs)) (put-le cs bytes f.at f.width) ∙ write_back fs
