-- Fields written one after the other from the start of some bytes: their bytes, and then what stood after them.
-- By putting each field after those before it. Assumes nothing.
use mathlib.Core.Path.{◌≡◌, refl, ap, ap₂, ◌∙◌}
use mathlib.Core.List.{List, [], ◌++◌}
use Prim.Native.Nat.{ℕ, ◌+◌, ◌≤◌}
use native.Mathlib.Omega.{arith}
use lib.Dec.{T, leb, lit≤}
use lib.ListN.{length, take, drop, length-append, length-drop}
use lib.Seq.{take_at}
use Rattle.std.specs.Prelude.{Option}
use Rattle.le.specs.Le.{put}
use Rattle.layout.specs.Fields.{digits}
use Rattle.layout.proofs.Digits.{length_digits, put-digits}
use Rattle.cper_fields.specs.Fields.{over, present}
use Rattle.cper_fields.proofs.Lists.{drop_past}

-- `out` is `base`, of at least `size` bytes, with `front` in the place of its first `at`
pub record Laid (size at : ℕ) (out : List ℕ) : Type 0 where
  pub base : List ℕ
  pub front : List ℕ
  pub room : size ≤ length base
  pub is : out ≡ front ++ drop at base
  pub long : length front ≡ at

abbrev pub laid_none : (size : ℕ) (base : List ℕ) → size ≤ length base → Laid size 0 base
laid_none size base h = record { base = base; front = []; room = h; is = refl; long = refl }

module _ {size at : ℕ} {out : List ℕ} (laid : Laid size at out) where
  -- there is room for a field
  pub room_for : (n : ℕ) → T (leb (at + n) size) → at + n ≤ length out
  room_for n h =
      let fits = lit≤ {m = at + n} {n = size} h in
      let same = ap length laid.is ∙ length-append laid.front (drop at laid.base) in
      omega (arith, laid.long, laid.room, length-drop at laid.base)

  -- a field follows
  abbrev follows : (n : ℕ) {field given next : List ℕ} → next ≡ over out at n given → length given ≡ n → given ≡ field → Laid size (at + n) next
  follows n {field} {given} e l f =
      record {
        base = laid.base;
        front = laid.front ++ field;
        room = laid.room;
        is =
            e
            ∙ ap₂ (λ (a b : List ℕ). a ++ given ++ b)
            (ap (take at) laid.is ∙ take_at laid.front (drop at laid.base) at laid.long)
            (ap (drop (at + n)) laid.is ∙ drop_past laid.front laid.base at (at + n) laid.long (omega arith))
            ∙ ap (λ (l : List ℕ). laid.front ++ l ++ drop (at + n) laid.base) f;
        long = length-append laid.front field ∙ omega (arith, laid.long, l, ap length f);
      }

  -- of bytes, as `put_bytes` writes it
  abbrev pub laid_bytes : (n : ℕ) {field given next : List ℕ} → next ≡ over out at (length given) given → length given ≡ n → given ≡ field → Laid size (at + n) next
  laid_bytes n {given = given} e l = follows n (e ∙ ap (λ (k : ℕ). over out at k given) l) l

  -- of bytes that may be absent, as `put_field` writes it
  abbrev pub laid_field : (n : ℕ) (field : Option (List ℕ)) {given : Option (List ℕ)} {next : List ℕ} → (next ≡ over out at n (present n given)) × (length (present n given) ≡ n) → given ≡ field
      → Laid size (at + n) next
  laid_field n field e f = follows n e.0 e.1 (ap (present n) f)

  -- of a number
  abbrev pub laid_number : (w : ℕ) {x y : ℕ} {next : List ℕ} → T (leb (at + w) size) → next ≡ put w out at y → y ≡ x → Laid size (at + w) next
  laid_number w {x} {y} h e f = follows w (e ∙ put-digits w out at y (room_for w h)) (length_digits w y) (ap (digits w) f)
