-- Rows in the walk's order as a nest: a row, those inside it, those after it. The first rows of a nest are one too.
-- By induction over the nest. Assumes nothing.
use mathlib.Core.Path.{◌≡◌}
use mathlib.Core.List.{List, [], ◌∷◌, ◌++◌, append-nil}
use mathlib.Core.Bool.{false}
use mathlib.Core.Logic.{⊎_elim}
use Prim.Native.Nat.{ℕ, zero, suc, ◌+◌, ◌-◌, ◌≤◌, ◌<◌}
use native.Mathlib.Omega.{arith}
use lib.ListN.{length, take}
use lib.Seq.{take-nil, take-append-le, take-append-add}
use Rattle.basics.proofs.Orders.{le_or_lt}
use Rattle.header_judge.specs.Head.{is_box}
use Rattle.region_rows.specs.declared.Span.{Span}
use Rattle.nesting_laws.specs.Nesting.{header_end, end}

-- a row that starts at an offset and ends by another, at a level and under a parent
pub record Fits (level parent low high : ℕ) (r : Span) : Type 0 where
  pub level_is : r.level ≡ level
  pub parent_is : r.parent ≡ parent
  pub starts : r.offset ≡ low
  pub some_held : 0 < r.held
  pub ends : end r ≤ high

-- only a Box has rows inside it
abbrev pub Opens : Span → List Span → Type 0
Opens r inner = is_box r.word r.flags ≡ false → inner ≡ []

-- the rows of a region between two offsets, at a level and under a parent, numbered from n on
pub data Nest : ℕ → ℕ → ℕ → ℕ → ℕ → List Span → Type 0 where
  bare : {level parent low high n : ℕ} → Nest level parent low high n []
  boxed : {level parent low high n : ℕ} {inner later : List Span} (r : Span) → Fits level parent low high r → Opens r inner
      → Nest (suc level) n (header_end r) (end r) (n + 1) inner
      → Nest level parent (end r) high (n + 1 + length inner) later
      → Nest level parent low high n (r ∷ (inner ++ later))

-- where no byte is left there is no row, so that the nest may start anywhere
pub past : {level parent low high n : ℕ} {rows : List Span} (other : ℕ) → high ≤ low → Nest level parent low high n rows → Nest level parent other high n rows
past other h bare = bare
past other h (boxed r fits opens deep more) = absurd (let s = fits.starts in let k = fits.some_held in let e = fits.ends in omega arith)

-- the first rows
pub prefix : {level parent low high n : ℕ} {rows : List Span} → Nest level parent low high n rows → (k : ℕ) → Nest level parent low high n (take k rows)
prefix bare zero = bare
prefix bare (suc k) = bare
prefix (boxed r fits opens deep more) zero = bare
prefix (boxed {inner} {later} r fits opens deep more) (suc k) =
    ⊎_elim
    (λ (h : length inner ≤ k).
    let e : k ≡ length inner + (k - length inner) = omega arith in
    rw (e, take-append-add inner later (k - length inner)) (boxed r fits opens deep (prefix more (k - length inner))))
    (λ (h : k < length inner).
    rw (take-append-le k inner later (omega arith), ← append-nil (take k inner)) (boxed {inner = take k inner} r fits (λ plain. rw (opens plain) (take-nil k)) (prefix deep k) bare))
    (le_or_lt (length inner) k)
