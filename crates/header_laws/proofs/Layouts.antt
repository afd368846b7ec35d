-- What holds of every layout: which one a header's fields are of, what a count decides, and which ones are legacy.
-- Layout for layout. Assumes nothing.
use mathlib.Core.Path.{◌≡◌, refl, ap}
use mathlib.Core.Bool.{Bool, true, false, cond, ◌||◌}
use mathlib.Core.List.{List}
use Prim.Native.Nat.{ℕ, zero, suc, ◌≤◌, ◌<◌}
use native.Mathlib.Omega.{arith}
use lib.ListN.{length}
use Rattle.le.specs.Le.{le}
use Rattle.layout.specs.Fields.{Field, read_all}
use Rattle.basics.specs.Bits.{has}
use Rattle.rules.specs.Rules.{legacy_server, legacy_gpu}
use Rattle.header_judge.specs.Version.{header_type}
use Rattle.header_judge.specs.Head.{legacy, type_layout, layout_of, size_for, count_of}
use Rattle.header_judge.specs.declared.Layout.{Layout}
use Rattle.header_judge.specs.declared.Layout.TheVariants.{Zero, One, Two, Three, Four, Five, Six, LegacyServer, LegacyGpu, Bad}
use Rattle.header_judge.proofs.Sizes.{count_there}
use Rattle.header.specs.Layouts.{table_of, type_from}
use Rattle.header.specs.Access.{layout_in, count_in, header_size}
use Rattle.header.specs.declared.HeaderType.{HeaderType}
use Rattle.header.specs.declared.HeaderType.TheVariants.{Type0, Type1, Type2, Type3, Type4, Type5, Type6, Type0LegacyServer, Type0LegacyGpu}

-- ---- the layout and the count of the fields that are read

pub layout_from : (l : Layout) (n : ℕ) (vs : List ℕ) → 0 < size_for l n → layout_in (type_from l vs) ≡ l
layout_from Zero n vs h = refl
layout_from One n vs h = refl
layout_from Two n vs h = refl
layout_from Three n vs h = refl
layout_from Four n vs h = refl
layout_from Five n vs h = refl
layout_from Six n vs h = refl
layout_from LegacyServer n vs h = refl
layout_from LegacyGpu n vs h = refl
layout_from Bad n vs h = absurd (omega arith)

-- what a count decides: the table and the header's size
abbrev pub shape_for : Layout → ℕ → List Field × ℕ
shape_for l n = (table_of l n, size_for l n)

-- the count that the fields tell is that of the bytes, as far as the layout has one
pub shape_read : (bs : List ℕ) (l : Layout) (n : ℕ) → size_for l n ≤ length bs
    → shape_for l (count_in (type_from l (read_all (table_of l n) bs))) ≡ shape_for l (count_of bs)
unfolding read_all
shape_read bs Zero n h = refl
shape_read bs One n h = refl
shape_read bs Two n h = refl
shape_read bs Three n h = refl
shape_read bs Four n h = refl
shape_read bs Five n h = refl
shape_read bs Six n h = ap (shape_for Six) (count_there bs (omega arith) (le 2 bs 26) refl)
shape_read bs LegacyServer n h = refl
shape_read bs LegacyGpu n h = refl
shape_read bs Bad n h = refl

-- ---- legacy layouts

abbrev pub is_legacy : Layout → Bool
is_legacy Zero = false
is_legacy One = false
is_legacy Two = false
is_legacy Three = false
is_legacy Four = false
is_legacy Five = false
is_legacy Six = false
is_legacy LegacyServer = true
is_legacy LegacyGpu = true
is_legacy Bad = false

-- no header type chooses one
type_plain : (t : ℕ) → false ≡ is_legacy (type_layout t)
type_plain zero = refl
type_plain (suc zero) = refl
type_plain (suc (suc zero)) = refl
type_plain (suc (suc (suc zero))) = refl
type_plain (suc (suc (suc (suc zero)))) = refl
type_plain (suc (suc (suc (suc (suc zero))))) = refl
type_plain (suc (suc (suc (suc (suc (suc zero)))))) = refl
type_plain (suc (suc (suc (suc (suc (suc (suc t))))))) = refl

-- the flags choose them
pub legacy_layout : (word flags : ℕ) → legacy flags ≡ is_legacy (layout_of word flags)
legacy_layout word flags = by (has flags legacy_server) (has flags legacy_gpu)
  where
    by : (a b : Bool) → (a || b) ≡ is_legacy (cond a LegacyServer (cond b LegacyGpu (type_layout (header_type word))))
    by true b = refl
    by false true = refl
    by false false = type_plain (header_type word)

-- where the size fields end lies within a header
pub sizes_within : (t : HeaderType) → cond (is_legacy (layout_in t)) 18 8 ≤ header_size t
sizes_within Type0 = omega arith
sizes_within Type1 = omega arith
sizes_within (Type2 p) = omega arith
sizes_within (Type3 p s) = omega arith
sizes_within (Type4 p w m) = omega arith
sizes_within (Type5 p s e) = omega arith
sizes_within (Type6 p d k n c) = omega arith
sizes_within (Type0LegacyServer p d k s) = omega arith
sizes_within (Type0LegacyGpu p s) = omega arith
