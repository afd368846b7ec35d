-- `is_cper` tells whether a slice starts with a whole header that has both signatures.
-- std looks for a prefix as the definition does, pair by pair. Assumes nothing.
use mathlib.Core.Path.{◌≡◌, refl, ap₂}
use mathlib.Core.Bool.{Bool, ◌&&◌}
use mathlib.Core.List.{List, [], ◌∷◌}
use Prim.Native.Nat.{ℕ}
use native.Mathlib.Omega.{arith}
use lib.Dec.{eqb}
use lib.ListN.{length, take}
use borrow.Author.Tests.{le-leb, lt-leb}
use Rattle.std.proofs.lemmas.Grind.{common_steps}
use Rattle.std.specs.Cmp.Lexicographic.{pointwise}
use Rattle.cper_header.specs.Record.{header_size, signature, starts_with, is_cper}
use Rattle.cper_header.proofs.is_cper.Goals as goal

swap : (x b : ℕ) → eqb x b ≡ eqb b x
swap x b = grind (arith, common_steps)

prefix : (xs bs : List ℕ) → pointwise eqb xs (take (length xs) bs) ≡ starts_with xs bs
unfolding starts_with
prefix [] bs = refl
prefix (x ∷ xs) [] = refl
prefix (x ∷ xs) (b ∷ bs) = ap₂ (λ (s t : Bool). s && t) (swap x b) (prefix xs bs)

pub returns-then-s-lt-RECORD_HEADER_SIZE : goal.returns-then-s-lt-RECORD_HEADER_SIZE
unfolding is_cper
returns-then-s-lt-RECORD_HEADER_SIZE c = rw (lt-leb header_size (length c.args.s.now) (omega arith))

pub returns-then-starts_with : goal.returns-then-starts_with
unfolding is_cper
returns-then-starts_with c =
    let s = c.args.s.now in
    rw (le-leb header_size (length s) c.if-s-lt-RECORD_HEADER_SIZE.false, ← prefix signature s, ← c.starts_with.ensures.value, c.if-starts_with.true, c.read_le.ensures)

pub returns-else-starts_with : goal.returns-else-starts_with
unfolding is_cper
returns-else-starts_with c =
    let s = c.args.s.now in
    rw (le-leb header_size (length s) c.if-s-lt-RECORD_HEADER_SIZE.false, ← prefix signature s, ← c.starts_with.ensures.value, c.if-starts_with.false)
