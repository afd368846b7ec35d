-- When two layouts are the same: where `==` says so, and where their numbers are, which comes to one.
-- `==` compares every layout that is declared; a number tells its layout. Assumes nothing.
use mathlib.Core.Path.{◌≡◌, refl, sym, ap, ◌∙◌}
use mathlib.Core.Bool.{Bool, true, false}
use mathlib.Core.List.{[], ◌∷◌}
use Prim.Native.Nat.{ℕ}
use lib.Dec.{eqb}
use lib.ListN.{get_or}
use borrow.Author.Tests.{eqb-true, eq-eqb}
use denote.Enum.Declared.{declared}
use denote.Enum.Bare.{same_true, true_same}
use Rattle.header_judge.specs.contracts.Layout as layout
use Rattle.header_judge.specs.contracts.LayoutPartialEq.TheImpl as layouts
use Rattle.header_judge.specs.declared.Layout.{Layout}
use Rattle.header_judge.specs.declared.Layout.TheVariants.{Zero, One, Two, Three, Four, Five, Six, LegacyServer, LegacyGpu, Bad}
use Rattle.header_encode.specs.Encode.{layout_number}

-- ---- as `==` compares them

pub same_layout : (l k : Layout) → (layouts.ghosts).eq l k ≡ true → l ≡ k
same_layout l k e = same_true (declared layout.enum) tt l k e

pub layout_same : (l k : Layout) → l ≡ k → (layouts.ghosts).eq l k ≡ true
layout_same l k e = true_same (declared layout.enum) l k e

-- ---- by their number

layout_at : ℕ → Layout
layout_at n = get_or (Zero ∷ One ∷ Two ∷ Three ∷ Four ∷ Five ∷ Six ∷ LegacyServer ∷ LegacyGpu ∷ []) n Bad

layout_at_lem : (l : Layout) → layout_at (layout_number l) ≡ l
unfolding layout_at
layout_at_lem Zero = refl
layout_at_lem One = refl
layout_at_lem Two = refl
layout_at_lem Three = refl
layout_at_lem Four = refl
layout_at_lem Five = refl
layout_at_lem Six = refl
layout_at_lem LegacyServer = refl
layout_at_lem LegacyGpu = refl
layout_at_lem Bad = refl

pub same_number : (l k : Layout) → eqb (layout_number l) (layout_number k) ≡ true → l ≡ k
same_number l k e = sym (layout_at_lem l) ∙ ap layout_at (eqb-true (layout_number l) (layout_number k) e) ∙ layout_at_lem k

pub number_same : (l k : Layout) → l ≡ k → eqb (layout_number l) (layout_number k) ≡ true
number_same l k e = eq-eqb (layout_number l) (layout_number k) (ap layout_number e)

-- ---- and `==` compares the numbers

pub equal_numbers : (l k : Layout) → (layouts.ghosts).eq l k ≡ eqb (layout_number l) (layout_number k)
equal_numbers l k = by ((layouts.ghosts).eq l k) (eqb (layout_number l) (layout_number k)) refl refl
  where
    by : (equal same : Bool) → (layouts.ghosts).eq l k ≡ equal → eqb (layout_number l) (layout_number k) ≡ same → equal ≡ same
    by true same e f = sym (number_same l k (same_layout l k e)) ∙ f
    by false true e f = sym e ∙ layout_same l k (same_number l k f)
    by false false e f = refl
