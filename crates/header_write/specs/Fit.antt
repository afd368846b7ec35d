-- When the fields of a layout fit (document 01, what the encoder gives 11 for).
use Rattle.std.specs.Prelude.{ℕ, Bool, true, ◌&&◌, eqb, leb, ltb}
use Rattle.header_judge.specs.Head.{server_die}
use Rattle.header.specs.declared.Status.{Status}
use Rattle.header.specs.declared.HeaderType.{HeaderType}
use Rattle.header.specs.declared.HeaderType.TheVariants.{Type0, Type1, Type2, Type3, Type4, Type5, Type6, Type0LegacyServer, Type0LegacyGpu}

-- a status that shares its word with complete
abbrev pub status_fits : Status → Bool
status_fits s = ltb s.completion_status 2147483648

-- the fields of a layout, beside a revision and an extended size
abbrev pub fields_fit : HeaderType → ℕ → ℕ → Bool
fields_fit Type0 rev ext = true
fields_fit Type1 rev ext = true
fields_fit (Type2 p) rev ext = true
fields_fit (Type3 p s) rev ext = status_fits s
fields_fit (Type4 p w m) rev ext = true
fields_fit (Type5 p s e) rev ext = status_fits s
fields_fit (Type6 p d k n c) rev ext = leb n 127
fields_fit (Type0LegacyServer p d k s) rev ext = status_fits s && (eqb ext 0 && eqb d (server_die rev))
fields_fit (Type0LegacyGpu p s) rev ext = status_fits s && eqb ext 0
