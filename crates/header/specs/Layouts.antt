-- The header layouts (document 01, 'Record header'), each as one table of fields that takes up every byte of the header,
-- and the fields of a header type from the table's numbers.
use Rattle.std.specs.Prelude.{ℕ, ◌+◌, ◌*◌, ◌-◌, ◌/◌, ◌%◌, Bool, List, [], ◌∷◌, ◌++◌, eqb, length, get_or, drop, replicate}
use Rattle.layout.specs.Fields.{Field, field}
use Rattle.layout.specs.Runs.{cells}
use Rattle.header_judge.specs.Version.{bit, revision}
use Rattle.header_judge.specs.Head.{server_die}
use Rattle.header_judge.specs.declared.Layout.{Layout}
use Rattle.header_judge.specs.declared.Layout.TheVariants.{Zero, One, Two, Three, Four, Five, Six, LegacyServer, LegacyGpu, Bad}
use Rattle.header.specs.declared.Stamp.{Stamp}
use Rattle.header.specs.declared.Status.{Status}
use Rattle.header.specs.declared.HeaderType.{HeaderType}
use Rattle.header.specs.declared.HeaderType.TheVariants.{Type0, Type1, Type2, Type3, Type4, Type5, Type6, Type0LegacyServer, Type0LegacyGpu}

-- ---- the tables

-- version word, record size, extended size; and what the layout has after them
abbrev pub sized : List Field → List Field
sized fs = field 0 4 ∷ field 4 2 ∷ field 6 2 ∷ fs

-- with timestamp, agent version, reason
abbrev pub stamped : List Field → List Field
stamped fs = sized (field 8 8 ∷ field 16 4 ∷ field 20 4 ∷ fs)

-- in a legacy layout: version word, reason, timestamp, record size, two unread bytes, agent version
abbrev pub legacy_stamped : List Field → List Field
legacy_stamped fs = field 0 4 ∷ field 4 4 ∷ field 8 8 ∷ field 16 2 ∷ field 18 2 ∷ field 20 4 ∷ fs

abbrev pub table_of : Layout → ℕ → List Field
table_of Zero count = sized []
table_of One count = sized []
table_of Two count = stamped []
-- status and complete
table_of Three count = stamped (field 24 4 ∷ [])
-- whoami, misc
table_of Four count = stamped (field 24 4 ∷ field 28 4 ∷ [])
-- status and complete, error status
table_of Five count = stamped (field 24 4 ∷ field 28 4 ∷ [])
-- die, socket, count and complete, the status words
table_of Six count = stamped (field 24 1 ∷ field 25 1 ∷ field 26 2 ∷ cells 28 4 count)
-- socket, three unread bytes, status and complete
table_of LegacyServer count = legacy_stamped (field 24 1 ∷ field 25 3 ∷ field 28 4 ∷ [])
-- four unread bytes, status and complete
table_of LegacyGpu count = legacy_stamped (field 24 4 ∷ field 28 4 ∷ [])
table_of Bad count = []

-- ---- numbers that share a field

-- a status of 31 bits, and complete above it
abbrev pub status_of : ℕ → Status
status_of word = record { completion_status = word % 2147483648; collection_complete = eqb (word / 2147483648 % 2) 1 }

abbrev pub status_word : Status → ℕ
status_word s = s.completion_status + bit s.collection_complete * 2147483648

-- a count of 7 bits, and complete in bit 15; bits 7 to 14 are not read
abbrev pub low_count : ℕ → ℕ
low_count half = half % 128

abbrev pub complete_half : ℕ → Bool
complete_half half = eqb (half / 32768 % 2) 1

abbrev pub count_half : ℕ → Bool → ℕ
count_half n c = n + bit c * 32768

-- ---- a header from the numbers of its table

-- 127 status words: those of a header, and zeros
abbrev pub padded : List ℕ → List ℕ
padded ws = ws ++ replicate (127 - length ws) 0

-- the n-th number
abbrev pub nth : List ℕ → ℕ → ℕ
nth vs n = get_or vs n 0

abbrev pub stamp : ℕ → ℕ → ℕ → Stamp
stamp t a r = record { timestamp = t; agent_version = a; reason = r }

abbrev pub stamp_from : List ℕ → Stamp
stamp_from vs = stamp (nth vs 3) (nth vs 4) (nth vs 5)

abbrev pub legacy_stamp_from : List ℕ → Stamp
legacy_stamp_from vs = stamp (nth vs 2) (nth vs 5) (nth vs 1)

abbrev pub type_from : Layout → List ℕ → HeaderType
type_from Zero vs = Type0
type_from One vs = Type1
type_from Two vs = Type2 (stamp_from vs)
type_from Three vs = Type3 (stamp_from vs) (status_of (nth vs 6))
type_from Four vs = Type4 (stamp_from vs) (nth vs 6) (nth vs 7)
type_from Five vs = Type5 (stamp_from vs) (status_of (nth vs 6)) (nth vs 7)
type_from Six vs = Type6 (stamp_from vs) (nth vs 6) (nth vs 7) (low_count (nth vs 8)) (complete_half (nth vs 8))
type_from LegacyServer vs = Type0LegacyServer (legacy_stamp_from vs) (server_die (revision (nth vs 0))) (nth vs 6) (status_of (nth vs 8))
type_from LegacyGpu vs = Type0LegacyGpu (legacy_stamp_from vs) (status_of (nth vs 7))
type_from Bad vs = Type0

-- the status words, which stand after the nine numbers that a layout has at most; 127 with the zeros past them
abbrev pub statuses_from : List ℕ → List ℕ
statuses_from vs = padded (drop 9 vs)
