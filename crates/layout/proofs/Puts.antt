-- A number put at a field of a table changes that number alone of those that are read, and leaves bytes bytes.
-- By induction over the table and over the width. Assumes nothing.
use mathlib.Core.Path.{◌≡◌, refl, ap₂, ◌∙◌}
use mathlib.Core.List.{List, [], ◌∷◌}
use mathlib.Core.Logic.{inl, inr}
use Prim.Native.Nat.{ℕ, zero, suc, ◌+◌, ◌/◌, ◌%◌, ◌^◌, ◌≤◌, ◌<◌}
use native.Mathlib.Nat.{mod-eq_of_lt, mod-lt}
use native.Mathlib.Omega.{arith}
use lib.ListN.{length, get_or, set}
use Rattle.le.specs.Le.{put}
use Rattle.le.proofs.Laws.{le-put, le-put_other}
use Rattle.layout.specs.Fields.{Field, field, Fits, read_all}
use Rattle.layout.proofs.Fields.{fits_end}

-- ---- what is read

-- a number put before the fields
read_put_before : (n w at lo : ℕ) (fs : List Field) (bs : List ℕ) (x : ℕ) → at + w ≤ lo → Fits lo fs n → read_all fs (put w bs at x) ≡ read_all fs bs
unfolding read_all
read_put_before n w at lo [] bs x h p = refl
read_put_before n w at lo (f ∷ fs) bs x h p =
    ap₂ (λ (v : ℕ) (vs : List ℕ). v ∷ vs)
    (le-put_other f.width w bs f.at at x (inr (omega arith)))
    (read_put_before n w at (f.at + f.width) fs bs x (omega arith) p.1)

-- the field at a place of the table
abbrev pub field_at : List Field → ℕ → Field
field_at fs k = get_or fs k (field 0 0)

field_from : (n lo : ℕ) (fs : List Field) (k : ℕ) → Fits lo fs n → k < length fs → lo ≤ (field_at fs k).at
field_from n lo [] k p h = absurd (omega arith)
field_from n lo (f ∷ fs) zero p h = p.0
field_from n lo (f ∷ fs) (suc k) p h = let q = field_from n (f.at + f.width) fs k p.1 (omega arith) in omega arith

-- the `k`-th number alone changes
pub read_put : (n lo : ℕ) (fs : List Field) (bs : List ℕ) (k x : ℕ) → Fits lo fs n → n ≤ length bs → k < length fs → x < 256 ^ (field_at fs k).width
    → read_all fs (put (field_at fs k).width bs (field_at fs k).at x) ≡ set (read_all fs bs) k x
unfolding read_all
read_put n lo [] bs k x p l h b = absurd (omega arith)
read_put n lo (f ∷ fs) bs zero x p l h b =
    let end = fits_end (f.at + f.width) fs n p.1 in
    ap₂ (λ (v : ℕ) (vs : List ℕ). v ∷ vs)
    (le-put f.width bs f.at x (omega arith) ∙ mod-eq_of_lt b)
    (read_put_before n f.width f.at (f.at + f.width) fs bs x (omega arith) p.1)
read_put n lo (f ∷ fs) bs (suc k) x p l h b =
    let after = field_from n (f.at + f.width) fs k p.1 (omega arith) in
    let g = field_at fs k in
    ap₂ (λ (v : ℕ) (vs : List ℕ). v ∷ vs)
    (le-put_other f.width g.width bs f.at g.at x (inl (omega arith)))
    (read_put n (f.at + f.width) fs bs k x p.1 l (omega arith) b)

-- ---- bytes stay bytes

set_lt : (m : ℕ) (l : List ℕ) (i a : ℕ) → ((k : ℕ) → get_or l k 0 < m) → a < m → (k : ℕ) → get_or (set l i a) k 0 < m
set_lt m [] i a b h k = b k
set_lt m (x ∷ l) zero a b h zero = h
set_lt m (x ∷ l) zero a b h (suc k) = b (suc k)
set_lt m (x ∷ l) (suc i) a b h zero = b 0
set_lt m (x ∷ l) (suc i) a b h (suc k) = set_lt m l i a (λ j. b (suc j)) h k

pub put-bytes : (w : ℕ) (bs : List ℕ) (at x : ℕ) → ((k : ℕ) → get_or bs k 0 < 256) → (k : ℕ) → get_or (put w bs at x) k 0 < 256
unfolding put
put-bytes zero bs at x b k = b k
put-bytes (suc w) bs at x b k = set_lt 256 (put w bs at x) (at + w) (x / 256 ^ w % 256) (put-bytes w bs at x b) (mod-lt (x / 256 ^ w) (omega arith)) k
