-- What the writers of the layouts ask and leave.
use Rattle.std.specs.Prelude.{ℕ, ◌≤◌, ◌<◌, ◌≡◌, true, List, length}
use Rattle.layout.specs.Fields.{write_all}
use Rattle.header_judge.specs.Version.{InBits}
use Rattle.header_judge.specs.declared.RecordSize.{RecordSize}
use Rattle.header.specs.Layouts.{table_of}
use Rattle.header.specs.Access.{layout_in, count_in, header_size}
use Rattle.header.specs.declared.Header.{Header}
use Rattle.header.specs.declared.HeaderType.{HeaderType}
use Rattle.header.specs.declared.HeaderType.TheVariants.{Type0, Type1, Type2, Type3, Type4, Type5, Type6, Type0LegacyServer, Type0LegacyGpu}
use Rattle.header_write.specs.Values.{values_for}
use Rattle.header_write.specs.Fit.{fields_fit}

-- an output with the fields of a header written into it
abbrev pub written : ℕ → RecordSize → HeaderType → List ℕ → List ℕ → List ℕ
written word z t ws out = write_all (table_of (layout_in t) (count_in t)) (values_for word z t ws) out

-- the status that shares its word with complete
abbrev pub status_in : HeaderType → ℕ
status_in Type0 = 0
status_in Type1 = 0
status_in (Type2 p) = 0
status_in (Type3 p s) = s.completion_status
status_in (Type4 p w m) = 0
status_in (Type5 p s e) = s.completion_status
status_in (Type6 p d k n c) = 0
status_in (Type0LegacyServer p d k s) = s.completion_status
status_in (Type0LegacyGpu p s) = s.completion_status

-- fields that fit, and room for them
abbrev pub RoomForHeader : HeaderType → List ℕ → Type 0
RoomForHeader t out = (header_size t ≤ length out) × (status_in t < 2147483648) × (count_in t ≤ 127)

-- a header that can be written into an output
pub record Writable (h : Header) (out : List ℕ) : Type 0 where
  pub room : header_size h.header_type ≤ length out
  pub bits : InBits h.version
  pub fit : fields_fit h.header_type h.version.revision h.size.extended_record_size ≡ true
