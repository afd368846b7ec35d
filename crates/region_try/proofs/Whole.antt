-- What a try does to `whole`, by the parts of it that the code has at hand.
-- By the definition's cases. Assumes nothing.
use mathlib.Core.Path.{◌≡◌, refl, ap, ◌∙◌}
use mathlib.Core.Bool.{Bool, true, false, not, ◌&&◌, and-true, and_assoc}
use Prim.Native.Nat.{ℕ, ◌-◌, ◌≤◌, ◌<◌}
use native.Mathlib.Omega.{arith}
use lib.Dec.{leb, ltb}
use borrow.Author.Tests.{leb-true, leb-false, le-leb, le-ltb, lt-ltb}
use Rattle.region_try.specs.Tries.{Try, deepest}
use Rattle.region_try.specs.Whole.{clean_stop, unopened, keeps_whole}
use Rattle.region_try.specs.Steps.{box_whole}
use Rattle.region_try.specs.declared.stop.Stop.{Stop}
use Rattle.region_try.proofs.Heads.{Stopped}
use Rattle.region_try.proofs.Finds.{Hit}

-- where it finds no record
pub keeps_stop : {v : Try} {stop : Stop} {type : ℕ} → Stopped v stop type → keeps_whole v ≡ clean_stop stop
unfolding keeps_whole
keeps_stop s = rw (s.is, s.why)

module _ {room rows : ℕ} {v : Try} {h d z : ℕ} {b : Bool} (y : Hit room rows v h d z b) where
  keeps_row : keeps_whole v ≡ (leb d h && not (b && unopened y.row.level z h))
  unfolding keeps_whole
  keeps_row = rw (y.is, y.held, y.declared, y.size, y.boxed)

  -- where it finds a record that is no Box, in a walk so far
  pub keeps_plain : (whole : Bool) → b ≡ false → (whole && keeps_whole v) ≡ (whole && leb d h)
  keeps_plain whole k = rw (keeps_row, k) (ap (λ (w : Bool). whole && w) (and-true (leb d h)))

  -- where it finds a Box of a level
  pub keeps_box : (whole : Bool) (level : ℕ) → b ≡ true → y.row.level ≡ level → (whole && leb d h && not (unopened level z h)) ≡ (whole && keeps_whole v)
  keeps_box whole level k l = rw (keeps_row, k, l) (and_assoc whole (leb d h) (not (unopened level z h)))

-- ---- a Box whose region has so many levels left

module _ (whole : Bool) (levels size held : ℕ) where
  -- where it is not to be opened
  pub box_shut : levels ≡ 0 → box_whole levels size held whole ≡ whole
  box_shut e = rw e (and-true whole)

  -- where it is
  pub box_header : 0 < levels → levels ≤ deepest → box_whole levels size held whole ≡ (whole && leb size held)
  box_header p h = rw (lt-ltb (deepest - levels) deepest (omega arith)) (ap (λ (w : Bool). whole && w) (by (leb size held) refl))
    where
      by : (b : Bool) → leb size held ≡ b → not (ltb held size) ≡ b
      by true e = let g : size ≤ held = leb-true _ _ e in rw (le-ltb held size g)
      by false e = let g : held < size = leb-false _ _ e in rw (lt-ltb held size g)

  -- where it is, and its header is held
  pub box_opens : 0 < levels → levels ≤ deepest → size ≤ held → box_whole levels size held whole ≡ whole
  box_opens p h g = box_header p h ∙ rw (le-leb size held g) (and-true whole)
