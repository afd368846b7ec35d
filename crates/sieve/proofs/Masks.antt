-- Masks: the bits of a number under two masks are those under their common bits, and what some rows share is part of each row's mask.
-- By the binary digits, and by induction over the rows. Assumes nothing.
use mathlib.Core.Path.{◌≡◌, refl, ap, sym, ◌∙◌}
use mathlib.Core.List.{List, [], ◌∷◌}
use Prim.Native.Nat.{ℕ, ◌/◌, ◌%◌, min}
use native.Mathlib.Omega.{arith}
use lib.Arith.{bin_ind}
use lib.Bits.{bit_and, and_step, and_comm, and_self}
use Rattle.rules.specs.Rules.{Rule}
use Rattle.sieve.specs.Sieve.{shared_by}

-- ---- three numbers

and_half : (a b : ℕ) → bit_and a b / 2 ≡ bit_and (a / 2) (b / 2)
and_half a b = omega (arith, and_step a b)

and_odd : (a b : ℕ) → bit_and a b % 2 ≡ min (a % 2) (b % 2)
and_odd a b = omega (arith, and_step a b)

and_assoc : (a b c : ℕ) → bit_and (bit_and a b) c ≡ bit_and a (bit_and b c)
and_assoc =
    bin_ind (λ (n : ℕ). (b c : ℕ) → bit_and (bit_and n b) c ≡ bit_and n (bit_and b c)) (λ b c. refl)
    (λ n ih b c.
    let low : min (min (n % 2) (b % 2)) (c % 2) ≡ min (n % 2) (min (b % 2) (c % 2)) = omega arith in
    and_step (bit_and n b) c
    ∙ rw (and_half n b, and_odd n b, ih (b / 2) (c / 2), low)
    (sym (and_step n (bit_and b c) ∙ rw (and_half b c, and_odd b c))))

-- ---- a part of a mask

-- all bits of one are bits of the other
abbrev pub Part : ℕ → ℕ → Type 0
Part a b = bit_and a b ≡ a

part_left : (a b c : ℕ) → Part a (bit_and b c) → Part a b
part_left a b c h =
    let e : bit_and (bit_and b c) b ≡ bit_and b c = and_comm (bit_and b c) b ∙ sym (and_assoc b b c) ∙ rw (and_self b) in
    ap (λ (x : ℕ). bit_and x b) (sym h) ∙ and_assoc a (bit_and b c) b ∙ rw e h

part_right : (a b c : ℕ) → Part a (bit_and b c) → Part a c
part_right a b c h = part_left a c b (rw (and_comm c b) h)

-- equal under a mask, and so under a part of it
pub under_part : (word mask wanted part : ℕ) → bit_and word mask ≡ wanted → Part part mask → bit_and wanted part ≡ bit_and word part
under_part word mask wanted part e h = rw (← e) (and_assoc word mask part ∙ rw (and_comm mask part, h))

-- ---- what rows share

shared_part : (mask : ℕ) (rs : List Rule) → Part (shared_by mask rs) mask
unfolding shared_by
shared_part mask [] = and_self mask
shared_part mask (r ∷ rs) = part_left (shared_by (bit_and mask r.mask) rs) mask r.mask (shared_part (bit_and mask r.mask) rs)

-- it is part of each row's mask
unfoldable pub InEach : ℕ → List Rule → Type 0
InEach part [] = Unit {0}
InEach part (r ∷ rs) = Part part r.mask × InEach part rs

pub shared_each : (mask : ℕ) (rs : List Rule) → InEach (shared_by mask rs) rs
unfolding shared_by InEach
shared_each mask [] = tt
shared_each mask (r ∷ rs) =
    (part_right (shared_by (bit_and mask r.mask) rs) mask r.mask (shared_part (bit_and mask r.mask) rs), shared_each (bit_and mask r.mask) rs)
