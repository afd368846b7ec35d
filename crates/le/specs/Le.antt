-- Unsigned numbers of `w` bytes in a list of bytes, least byte first: the number that stands at a place, and the bytes with a number written there.
use Rattle.std.specs.Prelude.{ℕ, zero, suc, ◌+◌, ◌*◌, ◌/◌, ◌%◌, ◌^◌, List, get_or, set}

-- the number of the `w` bytes from `at` on
unfoldable pub le : ℕ → List ℕ → ℕ → ℕ
le zero bs at = 0
le (suc w) bs at = le w bs at + get_or bs (at + w) 0 * 256 ^ w

-- the bytes with the lowest `w` bytes of `x` from `at` on
unfoldable pub put : ℕ → List ℕ → ℕ → ℕ → List ℕ
put zero bs at x = bs
put (suc w) bs at x = set (put w bs at x) (at + w) (x / 256 ^ w % 256)
