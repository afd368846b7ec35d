-- The numbers of a header: they fit the fields of its layout's table, and the header's parts from its numbers are its own.
-- Layout for layout. Assumes nothing.
use mathlib.Core.Path.{◌≡◌, refl, ap}
use mathlib.Core.Bool.{Bool, true, cond, ◌&&◌}
use mathlib.Core.List.{List}
use Prim.Native.Nat.{ℕ, ◌≤◌, ◌<◌}
use native.Mathlib.Omega.{arith}
use lib.Dec.{eqb}
use lib.ListN.{length, get_or, take}
use borrow.Author.Tests.{ltb-true, leb-true, eqb-true}
use Rattle.le.specs.Le.{le}
use Rattle.layout.specs.Fields.{Field, Below, read_all}
use Rattle.basics.proofs.Bools.{both}
use Rattle.layout.proofs.Runs.{below_cells}
use Rattle.header_judge.specs.Version.{version_of, revision}
use Rattle.header_judge.specs.Head.{layout_of, count_of, server_die}
use Rattle.header_judge.specs.declared.version.Version.{Version}
use Rattle.header_judge.specs.declared.Layout.{Layout}
use Rattle.header_judge.specs.declared.RecordSize.{RecordSize}
use Rattle.header.specs.Layouts.{table_of, padded, nth, type_from, statuses_from}
use Rattle.header.specs.Header.{numbers_of, header_of}
use Rattle.header.specs.Access.{layout_in, count_in}
use Rattle.header.specs.declared.Header.{Header}
use Rattle.header.specs.declared.Stamp.{Stamp}
use Rattle.header.specs.declared.Status.{Status}
use Rattle.header.specs.declared.HeaderType.{HeaderType}
use Rattle.header.specs.declared.HeaderType.TheVariants.{Type0, Type1, Type2, Type3, Type4, Type5, Type6, Type0LegacyServer, Type0LegacyGpu}
use Rattle.header_write.specs.Fit.{status_fits, fields_fit}
use Rattle.header_write.specs.Values.{values_for}
use Rattle.header_laws.specs.Typed.{U16, U32, U64, TypedStamp, TypedFields}
use Rattle.header_laws.proofs.Bits.{status_apart, status_lt, half_low, half_top, half_lt}
use Rattle.header_laws.proofs.Layouts.{is_legacy, legacy_layout}

-- ---- a header's parts

-- a version word, the sizes, the fields and the status words
pub record Parts : Type 0 where
  pub word : ℕ
  pub size : RecordSize
  pub fields : HeaderType
  pub words : List ℕ

abbrev pub parts : ℕ → RecordSize → HeaderType → List ℕ → Parts
parts word z t ws = record { word = word; size = z; fields = t; words = ws }

-- the header of some parts, with the fields of its version word
abbrev pub header_with : Version → Parts → Header
header_with v p = record { version = v; size = p.size; header_type = p.fields; completion_statuses = p.words }

abbrev sizes : ℕ → ℕ → RecordSize
sizes size ext = record { record_size = size; extended_record_size = ext }

-- from the numbers of a layout's table
abbrev pub parts_from : Layout → List ℕ → Parts
parts_from l vs =
    parts (nth vs 0) (sizes (nth vs (cond (is_legacy l) 3 1)) (cond (is_legacy l) 0 (nth vs 2))) (type_from l vs) (statuses_from vs)

-- from some bytes, the fields and status words by a table
abbrev pub sizes_at : Bool → List ℕ → RecordSize
sizes_at old bs = sizes (cond old (le 2 bs 16) (le 2 bs 4)) (cond old 0 (le 2 bs 6))

abbrev pub parts_at : List ℕ → Layout → List Field → Parts
parts_at bs l fs = parts (le 4 bs 0) (sizes_at (is_legacy l) bs) (type_from l (read_all fs bs)) (statuses_from (read_all fs bs))

-- the word and the sizes of a table are those of the bytes
pub parts_read : (bs : List ℕ) (t : HeaderType) (n : ℕ)
    → parts_at bs (layout_in t) (table_of (layout_in t) n) ≡ parts_from (layout_in t) (read_all (table_of (layout_in t) n) bs)
unfolding read_all
parts_read bs Type0 n = refl
parts_read bs Type1 n = refl
parts_read bs (Type2 p) n = refl
parts_read bs (Type3 p s) n = refl
parts_read bs (Type4 p w m) n = refl
parts_read bs (Type5 p s e) n = refl
parts_read bs (Type6 p d k m c) n = refl
parts_read bs (Type0LegacyServer p d k s) n = refl
parts_read bs (Type0LegacyGpu p s) n = refl

-- a header that is decoded has the parts of its bytes
pub header_read : (bs : List ℕ) (word flags : ℕ)
    → header_of bs word flags ≡ header_with (version_of word) (parts_at bs (layout_of word flags) (table_of (layout_of word flags) (count_of bs)))
unfolding numbers_of
header_read bs word flags =
    let l = layout_of word flags in
    let vs = read_all (table_of l (count_of bs)) bs in
    ap (λ (old : Bool). header_with (version_of word) (parts (le 4 bs 0) (sizes_at old bs) (type_from l vs) (statuses_from vs))) (legacy_layout word flags)

-- ---- what fits

small_status : (s : Status) → status_fits s ≡ true → s.completion_status < 2147483648
small_status s e = ltb-true s.completion_status 2147483648 e

server_fits : (s : Status) (ext d die : ℕ) → (status_fits s && (eqb ext 0 && eqb d die)) ≡ true → (s.completion_status < 2147483648) × (ext ≡ 0) × (d ≡ die)
server_fits s ext d die e =
    let p = both (status_fits s) (eqb ext 0 && eqb d die) e in
    let q = both (eqb ext 0) (eqb d die) p.1 in
    (small_status s p.0, eqb-true ext 0 q.0, eqb-true d die q.1)

gpu_fits : (s : Status) (ext : ℕ) → (status_fits s && eqb ext 0) ≡ true → (s.completion_status < 2147483648) × (ext ≡ 0)
gpu_fits s ext e = let p = both (status_fits s) (eqb ext 0) e in (small_status s p.0, eqb-true ext 0 p.1)

-- ---- a header's numbers

module _ (word : ℕ) (z : RecordSize) (ws : List ℕ) where
  abbrev ext : ℕ
  ext = z.extended_record_size

  abbrev die : ℕ
  die = server_die (revision word)

  -- the parts from a header's numbers are the header's
  pub parts_values : (t : HeaderType) → fields_fit t (revision word) ext ≡ true
      → parts_from (layout_in t) (values_for word z t ws) ≡ parts word z t (padded (take (count_in t) ws))
  parts_values Type0 e = refl
  parts_values Type1 e = refl
  parts_values (Type2 p) e = refl
  parts_values (Type3 p s) e = rw (status_apart s (small_status s e))
  parts_values (Type4 p w m) e = refl
  parts_values (Type5 p s d) e = rw (status_apart s (small_status s e))
  parts_values (Type6 p d k n c) e = let h = leb-true n 127 e in rw (half_low n c h, half_top n c h)
  parts_values (Type0LegacyServer p d k s) e = let h = server_fits s ext d die e in rw (status_apart s h.0, ← h.1, ← h.2)
  parts_values (Type0LegacyGpu p s) e = let h = gpu_fits s ext e in rw (status_apart s h.0, ← h.1)

  -- a header's numbers fit their fields
  module _ (hw : U32 word) (hz : U16 z.record_size) (he : U16 ext) (few : 127 ≤ length ws) (hs : (k : ℕ) → U32 (get_or ws k 0)) where
    -- what layouts begin with, and whatever holds of what comes after it
    below_stamped : {B : Type 0} (p : Stamp) → TypedStamp p → B
        → U32 word × (U16 z.record_size × (U16 ext × (U64 p.timestamp × (U32 p.agent_version × (U32 p.reason × B)))))
    below_stamped p m b = (hw, (hz, (he, (m.0, (m.1, (m.2, b))))))

    below_legacy : {B : Type 0} (p : Stamp) → TypedStamp p → B
        → U32 word × (U32 p.reason × (U64 p.timestamp × (U16 z.record_size × (U16 0 × (U32 p.agent_version × B)))))
    below_legacy p m b = (hw, (m.2, (m.0, (hz, (omega arith, (m.1, b))))))

    pub below_values : (t : HeaderType) → TypedFields t → fields_fit t (revision word) ext ≡ true
        → Below (table_of (layout_in t) (count_in t)) (values_for word z t ws)
    below_values Type0 m e = (hw, (hz, (he, tt)))
    below_values Type1 m e = (hw, (hz, (he, tt)))
    below_values (Type2 p) m e = below_stamped p m tt
    below_values (Type3 p s) m e = below_stamped p m.0 (status_lt s (small_status s e), tt)
    below_values (Type4 p w x) m e = below_stamped p m.0 (m.1, (m.2, tt))
    below_values (Type5 p s d) m e = below_stamped p m.0 (status_lt s (small_status s e), (m.2, tt))
    below_values (Type6 p d k n c) m e =
        let h : n ≤ 127 = leb-true n 127 e in
        below_stamped p m.0 (m.1, (m.2, (half_lt n c h, below_cells 28 4 0 n ws (omega arith) hs)))
    below_values (Type0LegacyServer p d k s) m e = below_legacy p m.0 (m.2, (omega arith, (status_lt s (server_fits s ext d die e).0, tt)))
    below_values (Type0LegacyGpu p s) m e = below_legacy p m.0 (omega arith, (status_lt s (gpu_fits s ext e).0, tt))
