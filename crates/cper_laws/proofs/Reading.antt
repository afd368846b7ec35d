-- Fields that stand one after the other in some bytes are read where they stand.
-- By dropping the fields before. Assumes nothing.
use mathlib.Core.Path.{◌≡◌, refl, sym, ap, ◌∙◌}
use mathlib.Core.List.{List, ◌++◌}
use Prim.Native.Nat.{ℕ, ◌+◌, ◌^◌, ◌≤◌, ◌<◌}
use native.Mathlib.Nat.{mod-eq_of_lt, add-zero, zero-add}
use native.Mathlib.Omega.{arith}
use lib.ListN.{length, get_or, take, drop, replicate, length-append, length-replicate}
use lib.Seq.{take_at, drop_at, drop-drop, get_or-drop}
use Rattle.le.specs.Le.{le, put}
use Rattle.le.proofs.Laws.{le_same, le-put}
use Rattle.layout.specs.Fields.{digits}
use Rattle.layout.proofs.Digits.{length_digits, put-digits}
use Rattle.std.specs.Prelude.{Option, Some, None, is_some}
use Rattle.std.specs.Bool.{then_some}
use Rattle.cper_fields.specs.Fields.{part, present}

-- from `at` on, the bytes are `rest`
pub record From (bs : List ℕ) (at : ℕ) (rest : List ℕ) : Type 0 where
  pub is : drop at bs ≡ rest

-- a number is the same in a tail
pub le-drop : (w : ℕ) (bs : List ℕ) (k at : ℕ) → le w (drop k bs) at ≡ le w bs (k + at)
le-drop w bs k at =
    le_same w (drop k bs) bs at (k + at)
    (λ j h. let e : k + (at + j) ≡ k + at + j = omega arith in get_or-drop k bs (at + j) 0 ∙ ap (λ (i : ℕ). get_or bs i 0) e)

-- a number at the start
le-digits : (w x : ℕ) (rest : List ℕ) → x < 256 ^ w → le w (digits w x ++ rest) 0 ≡ x
le-digits w x rest h =
    let room : List ℕ = replicate w 0 in
    let size : length room ≡ w = length-replicate w 0 in
    let long : 0 + w ≤ length (room ++ rest) = simp length-append (omega arith) in
    let e : put w (room ++ rest) 0 x ≡ digits w x ++ rest =
    put-digits w (room ++ rest) 0 x long ∙ ap (λ (l : List ℕ). digits w x ++ l) (ap (λ (k : ℕ). drop k (room ++ rest)) (zero-add w) ∙ drop_at room rest w size) in
    ap (λ (l : List ℕ). le w l 0) (sym e) ∙ le-put w (room ++ rest) 0 x long ∙ mod-eq_of_lt h

module _ {bs : List ℕ} {at : ℕ} where
  -- past a field
  pub past : (n : ℕ) (field rest : List ℕ) → length field ≡ n → From bs at (field ++ rest) → From bs (at + n) rest
  past n field rest e f = record { is = sym (drop-drop n at bs) ∙ ap (drop n) f.is ∙ drop_at field rest n e }

  pub past_number : (w x : ℕ) (rest : List ℕ) → From bs at (digits w x ++ rest) → From bs (at + w) rest
  past_number w x rest f = past w (digits w x) rest (length_digits w x) f

  -- a number is read
  pub read_number : (w x : ℕ) (rest : List ℕ) → x < 256 ^ w → From bs at (digits w x ++ rest) → le w bs at ≡ x
  read_number w x rest h f =
      ap (le w bs) (sym (add-zero at)) ∙ sym (le-drop w bs at 0) ∙ ap (λ (l : List ℕ). le w l 0) f.is ∙ le-digits w x rest h

  -- a field of bytes is read
  pub read_bytes : (n : ℕ) (field rest : List ℕ) → length field ≡ n → From bs at (field ++ rest) → part bs at n ≡ field
  read_bytes n field rest e f = ap (take n) f.is ∙ take_at field rest n e

  -- and one that may be absent
  pub read_field : (n : ℕ) (field : Option (List ℕ)) (rest : List ℕ) → length (present n field) ≡ n → From bs at (present n field ++ rest) → then_some (is_some field) (part bs at n) ≡ field
  read_field n None rest e f = refl
  read_field n (Some field) rest e f = ap Some (read_bytes n field rest e f)
