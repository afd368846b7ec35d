-- A number written is read back, and a number read, written where it stood, changes nothing; a write leaves the rest alone.
-- Each law is one induction over the width. Assumes nothing.
use mathlib.Core.Path.{◌≡◌, refl, sym, ap, ap₂, subst, ◌∙◌}
use mathlib.Core.List.{List}
use mathlib.Core.Logic.{◌⊎◌, ⊎_elim, inl, inr}
use Prim.Native.Nat.{ℕ, zero, suc, ◌+◌, ◌*◌, ◌/◌, ◌%◌, ◌^◌, ◌≤◌, ◌<◌}
use native.Mathlib.Nat.{add-zero, add-suc, add_assoc, add_comm, add-mul, mul_assoc, mul_comm, pow-suc, pow-le-pow_right, mod-one, mod-eq_of_lt, mod-add-div', div-div-eq-div-mul, div-eq_of_lt, zero-add, add-mul-div_right, add-mul-mod_self_right}
use native.Mathlib.Omega.{arith}
use lib.Arith.{digits_lt, mod-mul}
use lib.ListN.{length, get_or, set, length-set}
use lib.Pow.{pow-add}
use lib.Seq.{get_or-set_same, get_or-set_other, set-get_or}
use Rattle.le.specs.Le.{le, put}

-- every width holds 0
pub pow_positive : (w : ℕ) → 0 < 256 ^ w
pow_positive w = pow-le-pow_right {n = 256} (omega arith) {i = 0} {j = w} (omega arith)

-- ---- one byte

pub le_one : (bs : List ℕ) (at : ℕ) → le 1 bs at ≡ get_or bs at 0
unfolding le
le_one bs at = rw (add-zero at) (omega arith)

pub put_one : (bs : List ℕ) (at x : ℕ) → x < 256 → put 1 bs at x ≡ set bs at x
unfolding put
put_one bs at x h = let e : x / 1 % 256 ≡ x = omega arith in rw (add-zero at, e)

-- ---- what a write leaves alone

pub length-put : (w : ℕ) (bs : List ℕ) (at x : ℕ) → length (put w bs at x) ≡ length bs
unfolding put
length-put zero bs at x = refl
length-put (suc w) bs at x = length-set (put w bs at x) (at + w) (x / 256 ^ w % 256) ∙ length-put w bs at x

-- a byte outside
pub get_or-put : (w : ℕ) (bs : List ℕ) (at x j : ℕ) → (j < at) ⊎ (at + w ≤ j) → get_or (put w bs at x) j 0 ≡ get_or bs j 0
unfolding put
get_or-put zero bs at x j h = refl
get_or-put (suc w) bs at x j h =
    get_or-set_other (put w bs at x) (at + w) j (x / 256 ^ w % 256) 0 (λ e. ⊎_elim (λ l. omega arith) (λ l. omega arith) h)
    ∙ get_or-put w bs at x j (⊎_elim (λ l. inl l) (λ l. inr (omega arith)) h)

-- a number is made of its own bytes alone
pub le_same : (w : ℕ) (bs cs : List ℕ) (at to : ℕ) → ((k : ℕ) → k < w → get_or bs (at + k) 0 ≡ get_or cs (to + k) 0) → le w bs at ≡ le w cs to
unfolding le
le_same zero bs cs at to h = refl
le_same (suc w) bs cs at to h =
    ap₂ (λ (low top : ℕ). low + top * 256 ^ w) (le_same w bs cs at to (λ k l. h k (omega arith))) (h w (omega arith))

-- a number beside
pub le-put_other : (w v : ℕ) (bs : List ℕ) (at to x : ℕ) → (at + w ≤ to) ⊎ (to + v ≤ at) → le w (put v bs to x) at ≡ le w bs at
le-put_other w v bs at to x h =
    le_same w (put v bs to x) bs at at
    (λ k l. get_or-put v bs to x (at + k) (⊎_elim (λ o. inl (omega arith)) (λ o. inr (omega arith)) h))

-- what stands above the lowest `w` bytes of a number is not written
put-over : (w : ℕ) (bs : List ℕ) (at x m : ℕ) → put w bs at (x + m * 256 ^ w) ≡ put w bs at x
unfolding put
put-over zero bs at x m = refl
put-over (suc w) bs at x m =
    let e : x + m * 256 ^ suc w ≡ x + m * 256 * 256 ^ w = rw (pow-suc 256 w, mul_comm (256 ^ w) 256, ← mul_assoc m 256 (256 ^ w)) in
    rw e
    (ap₂ (λ (l : List ℕ) (b : ℕ). set l (at + w) b) (put-over w bs at x (m * 256))
    (ap (λ (q : ℕ). q % 256) (add-mul-div_right x (m * 256) (pow_positive w)) ∙ add-mul-mod_self_right (x / 256 ^ w) m 256))

pub put_mod : (w : ℕ) (bs : List ℕ) (at x : ℕ) → put w bs at (x % 256 ^ w) ≡ put w bs at x
put_mod w bs at x = sym (put-over w bs at (x % 256 ^ w) (x / 256 ^ w)) ∙ ap (put w bs at) (mod-add-div' x (256 ^ w))

-- ---- a number in two halves

pub le_halves : (w v : ℕ) (bs : List ℕ) (at : ℕ) → le (w + v) bs at ≡ le w bs at + le v bs (at + w) * 256 ^ w
unfolding le
le_halves w zero bs at = rw (add-zero w) (omega arith)
le_halves w (suc v) bs at =
    let low = le w bs at in
    let mid = le v bs (at + w) in
    let top = get_or bs (at + w + v) 0 in
    rw (add-suc w v, le_halves w v bs at, ← add_assoc at w v, add-mul mid (top * 256 ^ v) (256 ^ w), pow-add 256 w v, mul_assoc top (256 ^ v) (256 ^ w), mul_comm (256 ^ v) (256 ^ w))
    (add_assoc low (mid * 256 ^ w) (top * (256 ^ w * 256 ^ v)))

pub put_halves : (w v : ℕ) (bs : List ℕ) (at x : ℕ) → put (w + v) bs at x ≡ put v (put w bs at x) (at + w) (x / 256 ^ w)
unfolding put
put_halves w zero bs at x = rw (add-zero w)
put_halves w (suc v) bs at x =
    rw (add-suc w v, put_halves w v bs at x, ← add_assoc at w v, pow-add 256 w v, ← div-div-eq-div-mul x (256 ^ w) (256 ^ v))

-- as the code reads and writes them
pub read_halves : (w v : ℕ) (bs : List ℕ) (at : ℕ) {low high : ℕ} → low ≡ le w bs at → high ≡ le v bs (at + w) → low + high * 256 ^ w ≡ le (w + v) bs at
read_halves w v bs at e f = ap₂ (λ (a b : ℕ). a + b * 256 ^ w) e f ∙ sym (le_halves w v bs at)

pub written_halves : (w v : ℕ) (bs : List ℕ) (at x : ℕ) {mid out : List ℕ} → mid ≡ put w bs at (x % 256 ^ w) → out ≡ put v mid (at + w) (x / 256 ^ w) → out ≡ put (w + v) bs at x
written_halves w v bs at x e f =
    f ∙ ap (λ (l : List ℕ). put v l (at + w) (x / 256 ^ w)) (e ∙ put_mod w bs at x) ∙ sym (put_halves w v bs at x)

-- ---- the round trips

-- a number written is read back
pub le-put : (w : ℕ) (bs : List ℕ) (at x : ℕ) → at + w ≤ length bs → le w (put w bs at x) at ≡ x % 256 ^ w
unfolding le put
le-put zero bs at x h = sym (mod-one x)
le-put (suc w) bs at x h =
    let top = x / 256 ^ w % 256 in
    ap₂ (λ (low high : ℕ). low + high * 256 ^ w)
    (le_same w (set (put w bs at x) (at + w) top) (put w bs at x) at at (λ k l. get_or-set_other (put w bs at x) (at + w) (at + k) top 0 (λ e. omega arith))
    ∙ le-put w bs at x (omega arith))
    (get_or-set_same (put w bs at x) (at + w) top 0 (omega (arith, length-put w bs at x)))
    ∙ add_comm (x % 256 ^ w) (top * 256 ^ w)
    ∙ sym (ap (λ (p : ℕ). x % p) (pow-suc 256 w ∙ mul_comm (256 ^ w) 256) ∙ mod-mul x {m = 256} {c = 256 ^ w} (omega arith) (pow_positive w))

module _ (bs : List ℕ) (bytes : (k : ℕ) → get_or bs k 0 < 256) (at : ℕ) where
  -- a number read is below 256 to the power of its width
  pub le_lt : (w : ℕ) → le w bs at < 256 ^ w
  unfolding le
  le_lt zero = omega arith
  le_lt (suc w) =
      subst (λ (p : ℕ). le w bs at + get_or bs (at + w) 0 * 256 ^ w < p) (sym (pow-suc 256 w ∙ mul_comm (256 ^ w) 256))
      (omega (arith, digits_lt {q = get_or bs (at + w) 0} {m = 256} {r = le w bs at} {c = 256 ^ w} (bytes (at + w)) (le_lt w)))

  -- the halves of a number that is read as one
  pub low_half : (w v : ℕ) → le (w + v) bs at % 256 ^ w ≡ le w bs at
  low_half w v =
      ap (λ (n : ℕ). n % 256 ^ w) (le_halves w v bs at) ∙ add-mul-mod_self_right (le w bs at) (le v bs (at + w)) (256 ^ w) ∙ mod-eq_of_lt (le_lt w)

  pub high_half : (w v : ℕ) → le (w + v) bs at / 256 ^ w ≡ le v bs (at + w)
  high_half w v =
      ap (λ (n : ℕ). n / 256 ^ w) (le_halves w v bs at) ∙ add-mul-div_right (le w bs at) (le v bs (at + w)) (pow_positive w)
      ∙ ap (λ (q : ℕ). q + le v bs (at + w)) (div-eq_of_lt (le_lt w)) ∙ zero-add (le v bs (at + w))

  -- a number read, written where it stood, changes nothing
  pub put-le : (w : ℕ) → put w bs at (le w bs at) ≡ bs
  unfolding le put
  put-le zero = refl
  put-le (suc w) =
      let top = get_or bs (at + w) 0 in
      ap₂ (λ (l : List ℕ) (b : ℕ). set l (at + w) b)
      (put-over w bs at (le w bs at) top ∙ put-le w)
      (ap (λ (q : ℕ). q % 256) (add-mul-div_right (le w bs at) top (pow_positive w) ∙ ap (λ (q : ℕ). q + top) (div-eq_of_lt (le_lt w)) ∙ zero-add top)
      ∙ mod-eq_of_lt (bytes (at + w)))
      ∙ set-get_or bs (at + w) 0
