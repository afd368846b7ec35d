-- What the parts of the flat walk give: a level of its place, and the remembered words.
use Rattle.std.specs.Prelude.{ℕ, ◌+◌, List}
use Rattle.header_judge.specs.Steps.{Known}
use Rattle.region_flat.specs.declared.memory.Memory.{Memory}
use Rattle.region_flat.specs.declared.place.Level.{Level}

-- a level past a record, by what it declares
abbrev pub past : Level → ℕ → Level
past x declared = record { at = x.at + declared; till = x.till; parent = x.parent }

-- the level inside a Box, by its held bytes, its header's size and its row
abbrev pub inside : Level → ℕ → ℕ → ℕ → Level
inside x held size row = record { at = x.at + size; till = x.at + held; parent = row }

-- the flags of both words are known
abbrev pub Remembers : List ℕ → Memory → Type 0
Remembers rules m = Known rules m.word m.flags × Known rules m.looked_word m.looked_flags

-- with a word that has none
abbrev pub without_flags : Memory → ℕ → Memory
without_flags m word = record { word = word; flags = 0; looked_word = m.looked_word; looked_flags = m.looked_flags }
