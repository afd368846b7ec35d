-- What a C caller gets of a header decode and of an encode, and what they leave behind: every number as it is.
use Rattle.std.specs.Prelude.{ℕ, cond, List, [], ◌∷◌, Option, Some, None, Result, Ok, Err}
use Rattle.answers.specs.Numbers.{done}
use Rattle.rules.specs.Rules.{valid_of}
use Rattle.header.specs.Header.{answer_of, type_told, ending_told}
use Rattle.header.specs.declared.Header.{Header}
use Rattle.header.specs.declared.Decoded.{Decoded}
use Rattle.header.specs.declared.Refusal.{Refusal as Refused}
use Rattle.header_encode.specs.Encode.{encoded_of, number_of as encode_number}
use Rattle.header_encode.specs.declared.Refusal.{Refusal}
use Rattle.header_encode.specs.declared.Refusal.TheVariants.{BadRules, BadField}
use Rattle.c_header.specs.Header.{header_out, taken_of}
use Rattle.c_header.specs.declared.CHeader.{CHeader}

-- ---- decode

-- what is told beside the answer: the declared bytes, the header's size, the flags, the type of answer 4, and how the records end
abbrev pub told_done : ℕ → ℕ → ℕ → List ℕ
told_done declared size flags = declared ∷ size ∷ flags ∷ 0 ∷ 0 ∷ []

abbrev pub told_refused : Refused → List ℕ
told_refused refusal = 0 ∷ 0 ∷ 0 ∷ type_told refusal ∷ ending_told refusal ∷ []

abbrev pub told_of : Result Decoded Refused → List ℕ
told_of (Ok d) = told_done d.declared d.header_size d.flags
told_of (Err refusal) = told_refused refusal

-- the header behind the pointer, which is a new one with answer 0 alone
abbrev pub header_left : CHeader → Result Decoded Refused → CHeader
header_left old (Ok d) = header_out d.header
header_left old (Err refusal) = old

-- that header, what is told, and the answer
unfoldable pub decode_out : CHeader → Result Decoded Refused → CHeader × List ℕ × ℕ
decode_out old d = (header_left old d, told_of d, answer_of d)

-- ---- encode

-- a header from C encoded; one that is none is a bad field, which bad rules come before
abbrev pub encoded_in : List ℕ → Option Header → List ℕ → List ℕ × Result ℕ Refusal
encoded_in rules (Some h) out = encoded_of rules h out
encoded_in rules None out = (out, Err (cond (valid_of rules) BadField BadRules))

-- the output, the length that was written, and the answer
abbrev pub encoded_out : List ℕ → Result ℕ Refusal → List ℕ × ℕ × ℕ
encoded_out out (Ok n) = (out, n, done)
encoded_out out (Err refusal) = (out, 0, encode_number refusal)

unfoldable pub encode_out : List ℕ → CHeader → List ℕ → List ℕ × ℕ × ℕ
encode_out rules h out = let end = encoded_in rules (taken_of h) out in encoded_out end.0 end.1
