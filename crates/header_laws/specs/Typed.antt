-- What the Rust types say of a header and of a slice of bytes; the numbers of a definition have no bound of their own.
use Rattle.std.specs.Prelude.{◌≡◌, List, ℕ, ◌^◌, ◌<◌, length, get_or}
use Rattle.header.specs.declared.Header.{Header}
use Rattle.header.specs.declared.Stamp.{Stamp}
use Rattle.header.specs.declared.Status.{Status}
use Rattle.header.specs.declared.HeaderType.{HeaderType}
use Rattle.header.specs.declared.HeaderType.TheVariants.{Type0, Type1, Type2, Type3, Type4, Type5, Type6, Type0LegacyServer, Type0LegacyGpu}

-- ---- the unsigned types

abbrev pub U8 : ℕ → Type 0
U8 x = x < 2 ^ 8

abbrev pub U16 : ℕ → Type 0
U16 x = x < 2 ^ 16

abbrev pub U32 : ℕ → Type 0
U32 x = x < 2 ^ 32

abbrev pub U64 : ℕ → Type 0
U64 x = x < 2 ^ 64

-- ---- a header

abbrev pub TypedStamp : Stamp → Type 0
TypedStamp p = U64 p.timestamp × U32 p.agent_version × U32 p.reason

abbrev pub TypedStatus : Status → Type 0
TypedStatus s = U32 s.completion_status

-- the fields of a layout, in their order; a yes/no says nothing
abbrev pub TypedFields : HeaderType → Type 0
TypedFields Type0 = Unit {0}
TypedFields Type1 = Unit {0}
TypedFields (Type2 p) = TypedStamp p
TypedFields (Type3 p s) = TypedStamp p × TypedStatus s
TypedFields (Type4 p w m) = TypedStamp p × U32 w × U32 m
TypedFields (Type5 p s e) = TypedStamp p × TypedStatus s × U32 e
TypedFields (Type6 p d k n c) = TypedStamp p × U8 d × U8 k × U16 n
TypedFields (Type0LegacyServer p d k s) = TypedStamp p × U8 d × U8 k × TypedStatus s
TypedFields (Type0LegacyGpu p s) = TypedStamp p × TypedStatus s

-- all of a header; there are 127 status words
pub record Typed (h : Header) : Type 0 where
  pub revision : U32 h.version.revision
  pub header : U16 h.version.header_type
  pub product : U32 h.version.product_id
  pub kind : U8 h.version.record_type
  pub size : U16 h.size.record_size
  pub extended : U16 h.size.extended_record_size
  pub fields : TypedFields h.header_type
  pub count : length h.completion_statuses ≡ 127
  pub words : (k : ℕ) → U32 (get_or h.completion_statuses k 0)

-- ---- a slice of bytes

abbrev pub Bytes : List ℕ → Type 0
Bytes bs = (k : ℕ) → U8 (get_or bs k 0)
