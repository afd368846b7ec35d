-- A run written number by number, as a loop writes it, is its fields written.
-- By induction over the count: the last number is one more field. Assumes nothing.
use mathlib.Core.Path.{◌≡◌, refl, sym, ap, ap₂, ◌∙◌}
use mathlib.Core.List.{List, [], ◌∷◌, ◌++◌}
use Prim.Native.Nat.{ℕ, zero, suc, ◌+◌, ◌*◌, ◌^◌, ◌≤◌, ◌<◌}
use native.Mathlib.Nat.{add-zero, zero-add}
use native.Mathlib.Omega.{arith}
use lib.ListN.{length, get_or, take}
use lib.Seq.{take-suc, length-take-le}
use Rattle.le.specs.Le.{le, put}
use Rattle.layout.specs.Fields.{Field, field, Below, read_all, write_all}
use Rattle.layout.specs.Runs.{cells_from, cells, put_run}

pub read_append : (fs gs : List Field) (bs : List ℕ) → read_all (fs ++ gs) bs ≡ read_all fs bs ++ read_all gs bs
unfolding read_all
read_append [] gs bs = refl
read_append (f ∷ fs) gs bs = ap (λ (l : List ℕ). le f.width bs f.at ∷ l) (read_append fs gs bs)

pub write_append : (fs gs : List Field) (vs ws bs : List ℕ) → length vs ≡ length fs → write_all (fs ++ gs) (vs ++ ws) bs ≡ write_all gs ws (write_all fs vs bs)
unfolding write_all
write_append [] gs [] ws bs e = refl
write_append [] gs (v ∷ vs) ws bs e = absurd (omega arith)
write_append (f ∷ fs) gs [] ws bs e = absurd (omega arith)
write_append (f ∷ fs) gs (v ∷ vs) ws bs e = write_append fs gs vs ws (put f.width bs f.at v) (omega arith)

-- ---- one run

pub length-cells : (at w k n : ℕ) → length (cells_from at w k n) ≡ n
length-cells at w k zero = refl
length-cells at w k (suc n) = ap suc (length-cells at w (suc k) n)

-- numbers that fit the width of a run are below its fields
pub below_cells : (at w k n : ℕ) (vs : List ℕ) → n ≤ length vs → ((i : ℕ) → get_or vs i 0 < 256 ^ w) → Below (cells_from at w k n) (take n vs)
below_cells at w k zero vs h b = tt
below_cells at w k (suc n) [] h b = absurd (omega arith)
below_cells at w k (suc n) (v ∷ vs) h b = (b 0, below_cells at w (suc k) n vs (omega arith) (λ i. b (suc i)))

-- the last number of a run
pub last_cell : (at w k n : ℕ) → cells_from at w k (suc n) ≡ cells_from at w k n ++ (field (at + w * (k + n)) w ∷ [])
last_cell at w k zero = ap (λ (i : ℕ). field (at + w * i) w ∷ []) (sym (add-zero k))
last_cell at w k (suc n) =
    let e : suc k + n ≡ k + suc n = omega arith in
    ap (λ (l : List Field). field (at + w * k) w ∷ l)
    (last_cell at w (suc k) n
    ∙ ap (λ (i : ℕ). cells_from at w (suc k) n ++ (field (at + w * i) w ∷ [])) e)

-- the first numbers of a list, written one after the other
pub write_first : (at w n : ℕ) (v bs : List ℕ) → n ≤ length v → put_run w n bs at v ≡ write_all (cells at w n) (take n v) bs
unfolding write_all put_run
write_first at w zero v bs h = refl
write_first at w (suc n) v bs h =
    let e : length (take n v) ≡ length (cells at w n) = length-take-le n v (omega arith) ∙ sym (length-cells at w 0 n) in
    let f : at + w * (0 + n) ≡ at + w * n = ap (λ (i : ℕ). at + w * i) (zero-add n) in
    sym
    (ap₂ (λ (fs : List Field) (vs : List ℕ). write_all fs vs bs) (last_cell at w 0 n) (take-suc v n 0 (omega arith))
    ∙ write_append (cells at w n) (field (at + w * (0 + n)) w ∷ []) (take n v) (get_or v n 0 ∷ []) bs e
    ∙ ap₂ (λ (l : List ℕ) (i : ℕ). put w l i (get_or v n 0)) (sym (write_first at w n v bs (omega arith))) f)
