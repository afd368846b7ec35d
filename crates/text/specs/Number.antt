-- A number of 32 bits as text in hexadecimal, by the digits that the kit's `io` writes. In decimal a number is std's `decimal`.
use Rattle.std.specs.Prelude.{ℕ, List}
use Rattle.io.specs.Digits.{last_digits}

-- eight digits
unfoldable pub hex : ℕ → List ℕ
hex n = last_digits 16 8 n
