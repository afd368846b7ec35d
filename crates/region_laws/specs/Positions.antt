-- The positions at which the nested walk tries a header (document 00, demand 3).
use Rattle.std.specs.Prelude.{ℕ, List, [], ◌∷◌}
use Rattle.region_try.specs.Tries.{Try, none, hit}
use Rattle.region_laws.specs.Nested.{gathered}

-- where a try is made
abbrev pub offset_of : Try → ℕ
offset_of (none level offset head) = offset
offset_of (hit r) = r.offset

-- the header positions that the nested walk visits in an input that starts at an offset
abbrev pub visited_from : List ℕ → ℕ → List ℕ → List ℕ
visited_from rules at bytes = gathered rules (λ region. []) (λ at. at ∷ []) at bytes

-- and in the whole input
abbrev pub visited : List ℕ → List ℕ → List ℕ
visited rules bytes = visited_from rules 0 bytes
