-- `starts_with` tells whether the bytes from an offset on start with a GUID's.
-- The fold over both goes on as the definition does. Assumes nothing.
use mathlib.Core.Path.{◌≡◌, sym, ◌∙◌}
use mathlib.Core.Bool.{Bool, true, ◌&&◌, and_assoc, and-true}
use mathlib.Core.List.{List, [], ◌∷◌}
use Prim.Native.Nat.{ℕ, ◌+◌, ◌-◌, ◌≤◌}
use native.Mathlib.Omega.{arith}
use lib.Dec.{eqb}
use lib.ListN.{length, take, drop, length-drop}
use Rattle.std.specs.List.{fold, zip}
use Rattle.std.proofs.Common.{rules, tests}
use Rattle.std.proofs.lemmas.Iterator.{YieldsList-from_slice, YieldsList-from_zip}
use Rattle.std.proofs.lemmas.Iterator.Consumers.{fold_from_yields_List}
use Rattle.cper_header.specs.Record.{starts_with}
use Rattle.cper_regions.proofs.opened.starts_with.Goals as goal

-- as many bytes as the GUID has
folded : (guid s : List ℕ) (same : Bool) → length guid ≤ length s
    → fold (λ (t : Bool) (p : ℕ × ℕ). t && eqb p.0 p.1) same (zip (take (length guid) s) guid) ≡ (same && starts_with guid s)
unfolding starts_with
folded [] s same h = sym (and-true same)
folded (x ∷ guid) [] same h = absurd (omega arith)
folded (x ∷ guid) (b ∷ s) same h = folded guid s (same && eqb b x) (omega arith) ∙ and_assoc same (eqb b x) (starts_with guid s)

pub returns : goal.returns
returns c =
    let a = c.args in
    let from = drop a.at a.s.now in
    let count : a.at + 16 - a.at ≡ length a.guid.now = omega (arith, c.told-guid) in
    fold_from_yields_List _ (λ same p. same && eqb p.0 p.1) true c.fold.result c.fold.ensures.ran
    (YieldsList-from_zip (YieldsList-from_slice (take (a.at + 16 - a.at) from) (cc)) (YieldsList-from_slice a.guid.now (cc)))
    (λ t p u q k. search (rules, tests))
    ∙ rw count (folded a.guid.now from true (omega (arith, length-drop a.at a.s.now)))
