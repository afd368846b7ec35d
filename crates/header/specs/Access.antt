-- What the Rust offers on a header (header.rs).
use Rattle.std.specs.Prelude.{ℕ, ◌+◌, ◌*◌, cond, Option, Some, None, ltb}
use Rattle.header_judge.specs.Head.{unit, size_for}
use Rattle.header_judge.specs.declared.Layout.{Layout}
use Rattle.header_judge.specs.declared.Layout.TheVariants.{Zero, One, Two, Three, Four, Five, Six, LegacyServer, LegacyGpu}
use Rattle.header.specs.declared.HeaderType.{HeaderType}
use Rattle.header.specs.declared.HeaderType.TheVariants.{Type0, Type1, Type2, Type3, Type4, Type5, Type6, Type0LegacyServer, Type0LegacyGpu}
use Rattle.header.specs.declared.Header.{Header}

-- the bytes that a record with these flags declares
abbrev pub record_bytes : Header → ℕ → ℕ
record_bytes h flags = (h.size.record_size + h.size.extended_record_size) * unit flags

-- where its extended record starts, if there is one
abbrev pub extended_offset : Header → ℕ → Option ℕ
extended_offset h flags = cond (ltb 0 h.size.extended_record_size) (Some (h.size.record_size * unit flags)) None

-- the layout of a header's fields
abbrev pub layout_in : HeaderType → Layout
layout_in Type0 = Zero
layout_in Type1 = One
layout_in (Type2 p) = Two
layout_in (Type3 p s) = Three
layout_in (Type4 p w m) = Four
layout_in (Type5 p s e) = Five
layout_in (Type6 p d k n c) = Six
layout_in (Type0LegacyServer p d k s) = LegacyServer
layout_in (Type0LegacyGpu p s) = LegacyGpu

-- how many status words it has
abbrev pub count_in : HeaderType → ℕ
count_in Type0 = 0
count_in Type1 = 0
count_in (Type2 p) = 0
count_in (Type3 p s) = 0
count_in (Type4 p w m) = 0
count_in (Type5 p s e) = 0
count_in (Type6 p d k n c) = n
count_in (Type0LegacyServer p d k s) = 0
count_in (Type0LegacyGpu p s) = 0

-- the bytes of the header itself
abbrev pub header_size : HeaderType → ℕ
header_size t = size_for (layout_in t) (count_in t)

-- the socket, 0 where the header names none
abbrev pub socket_of : HeaderType → ℕ
socket_of Type0 = 0
socket_of Type1 = 0
socket_of (Type2 p) = 0
socket_of (Type3 p s) = 0
socket_of (Type4 p w m) = 0
socket_of (Type5 p s e) = 0
socket_of (Type6 p d k n c) = k
socket_of (Type0LegacyServer p d k s) = k
socket_of (Type0LegacyGpu p s) = 0

-- the die, if the header names one
abbrev pub die_of : HeaderType → Option ℕ
die_of Type0 = None
die_of Type1 = None
die_of (Type2 p) = None
die_of (Type3 p s) = None
die_of (Type4 p w m) = None
die_of (Type5 p s e) = None
die_of (Type6 p d k n c) = Some d
die_of (Type0LegacyServer p d k s) = Some d
die_of (Type0LegacyGpu p s) = None
