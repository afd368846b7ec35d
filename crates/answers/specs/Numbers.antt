-- Document 01, 'Numbers the caller gets': the number of each answer, and the longest input that is looked at.
use Rattle.std.specs.Prelude.{ℕ}

abbrev pub done : ℕ
done = 0

abbrev pub too_long : ℕ
too_long = 1

abbrev pub bad_rules : ℕ
bad_rules = 2

abbrev pub bad_header : ℕ
bad_header = 3

abbrev pub bad_type : ℕ
bad_type = 4

abbrev pub empty : ℕ
empty = 5

abbrev pub spans_full : ℕ
spans_full = 6

abbrev pub tries_spent : ℕ
tries_spent = 7

abbrev pub not_cper : ℕ
not_cper = 8

abbrev pub sections_full : ℕ
sections_full = 9

abbrev pub output_short : ℕ
output_short = 10

abbrev pub bad_field : ℕ
bad_field = 11

-- document 02, C-11: a piece that is too long, or a table with too little room; a receiver that receives nothing
abbrev pub bad_piece : ℕ
bad_piece = 12

abbrev pub not_receiving : ℕ
not_receiving = 13

-- document 01 has no number for a header that has ended, nor for a section that is not kept
abbrev pub ended : ℕ
ended = 254

abbrev pub none : ℕ
none = 255

-- the longest region, and the longest CPER
abbrev pub most_bytes : ℕ
most_bytes = 1048576
