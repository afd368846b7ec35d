-- The header that a front tells, and its record's row.
use Rattle.std.specs.Prelude.{ℕ}
use Rattle.header_judge.specs.Head.{head_with, summary_of, Head}
use Rattle.region_rows.specs.declared.Span.{Span}
use Rattle.region_rows.specs.Rows.{top}
use Rattle.region_try.specs.Tries.{span_of}
use Rattle.receiver.specs.declared.front.Front.{Front}

abbrev pub head_in : Front → Head
head_in f = head_with f.bytes.now f.word f.flags

-- at an offset, from which so many bytes have come
abbrev pub row_in : Front → ℕ → ℕ → Span
row_in f offset left = span_of 0 top offset left (summary_of f.bytes.now f.word f.flags)
