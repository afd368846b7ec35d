-- What inner contracts say of a size and of one try, beside what they are.
use Rattle.std.specs.Prelude.{ℕ, ◌≤◌, ◌<◌, ◌≡◌, List, length, Result, Ok, Err, IfOk}
use Rattle.rules.specs.Rules.{flags_of}
use Rattle.header_judge.specs.Version.{no_word}
use Rattle.header_judge.specs.Head.{sizes_end, Head}
use Rattle.header_judge.specs.declared.NoRecord.{NoRecord}
use Rattle.header_judge.specs.declared.NoRecord.TheVariants.{Ended, BadHeader, BadType}

-- the flags of a word are known, if it is one
abbrev pub Known : List ℕ → ℕ → ℕ → Type 0
Known rules word flags = (word ≡ no_word → ⊥) → flags ≡ flags_of rules word

-- a size that was found: within its bounds, and within the bytes, as the size fields are
pub record Sized (bs : List ℕ) (flags size : ℕ) : Type 0 where
  pub least : 8 ≤ size
  pub most : size ≤ 536
  pub within : size ≤ length bs
  pub sizes : sizes_end flags ≤ length bs

abbrev pub Measured : List ℕ → ℕ → Result ℕ NoRecord → Type 0
Measured bs flags size = IfOk size (Sized bs flags)

-- the bounds of the numbers that one try finds
abbrev pub HeadBounds : Head → Type 0
HeadBounds (Err (Ended ending)) = Unit {0}
HeadBounds (Err BadHeader) = Unit {0}
HeadBounds (Err (BadType t)) = (7 ≤ t) × (t < 16)
HeadBounds (Ok s) = (s.declared ≤ 524280) × (8 ≤ s.size) × (s.size ≤ 536)
