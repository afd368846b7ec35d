-- Of a header whose fields fit, what is written beside other bits is small: a status that shares its word, and the count of status words.
-- By the layout. Assumes nothing.
use mathlib.Core.Path.{◌≡◌}
use mathlib.Core.Bool.{true, ◌&&◌}
use Prim.Native.Nat.{ℕ, ◌≤◌, ◌<◌}
use native.Mathlib.Omega.{arith}
use lib.Dec.{eqb}
use borrow.Author.Tests.{ltb-true, leb-true}
use Rattle.basics.proofs.Bools.{both}
use Rattle.header_judge.specs.Head.{server_die}
use Rattle.header.specs.Access.{count_in}
use Rattle.header.specs.declared.HeaderType.{HeaderType}
use Rattle.header.specs.declared.HeaderType.TheVariants.{Type0, Type1, Type2, Type3, Type4, Type5, Type6, Type0LegacyServer, Type0LegacyGpu}
use Rattle.header_write.specs.Fit.{status_fits, fields_fit}
use Rattle.header_write.specs.Steps.{status_in}

pub small_fields : (t : HeaderType) (rev ext : ℕ) → fields_fit t rev ext ≡ true → (status_in t < 2147483648) × (count_in t ≤ 127)
small_fields Type0 rev ext e = omega arith
small_fields Type1 rev ext e = omega arith
small_fields (Type2 p) rev ext e = omega arith
small_fields (Type3 p s) rev ext e = (ltb-true _ _ e, omega arith)
small_fields (Type4 p w m) rev ext e = omega arith
small_fields (Type5 p s d) rev ext e = (ltb-true _ _ e, omega arith)
small_fields (Type6 p d k n c) rev ext e = (omega arith, leb-true _ _ e)
small_fields (Type0LegacyServer p d k s) rev ext e = (ltb-true _ _ (both (status_fits s) (eqb ext 0 && eqb d (server_die rev)) e).0, omega arith)
small_fields (Type0LegacyGpu p s) rev ext e = (ltb-true _ _ (both (status_fits s) (eqb ext 0) e).0, omega arith)
