-- The number of each refusal of a receiver's call.
use Rattle.std.specs.Prelude.{ℕ}
use Rattle.answers.specs.Numbers as answer
use Rattle.receiver.specs.declared.refusal.Refusal.{Refusal}
use Rattle.receiver.specs.declared.refusal.Refusal.TheVariants.{BadRules, BadPiece, TooLong, NotReceiving}

abbrev pub number_of : Refusal → ℕ
number_of BadRules = answer.bad_rules
number_of BadPiece = answer.bad_piece
number_of TooLong = answer.too_long
number_of NotReceiving = answer.not_receiving
