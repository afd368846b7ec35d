-- The number of each reason for which a region stops, and so of each ending of its records (document 02, C-12).
use Rattle.std.specs.Prelude.{ℕ}

-- no reason is told
abbrev pub untold : ℕ
untold = 0

abbrev pub end_of_input : ℕ
end_of_input = 1

abbrev pub zero_word : ℕ
zero_word = 2

abbrev pub deadbeef_word : ℕ
deadbeef_word = 3

abbrev pub few_bytes : ℕ
few_bytes = 4

abbrev pub bad_header : ℕ
bad_header = 5

abbrev pub size_zero : ℕ
size_zero = 6
