-- A run of numbers of one width: sixteen bytes, some words.
use Rattle.std.specs.Prelude.{ℕ, zero, suc, ◌+◌, ◌*◌, List, [], ◌∷◌, get_or}
use Rattle.le.specs.Le.{put}
use Rattle.layout.specs.Fields.{Field, field}

-- the fields of `n` numbers, from the `k`-th after `at` on
abbrev pub cells_from : ℕ → ℕ → ℕ → ℕ → List Field
cells_from at w k zero = []
cells_from at w k (suc n) = field (at + w * k) w ∷ cells_from at w (suc k) n

abbrev pub cells : ℕ → ℕ → ℕ → List Field
cells at w n = cells_from at w 0 n

-- the bytes with the first `n` numbers of a run written one after the other, as a loop writes them
unfoldable pub put_run : ℕ → ℕ → List ℕ → ℕ → List ℕ → List ℕ
put_run w zero bs at v = bs
put_run w (suc n) bs at v = put w (put_run w n bs at v) (at + w * n) (get_or v n 0)
