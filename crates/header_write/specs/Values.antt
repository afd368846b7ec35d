-- The numbers of a header in the order of its layout's table, and its bytes. What no field reads is zero.
use Rattle.std.specs.Prelude.{ℕ, List, [], ◌∷◌, take}
use Rattle.layout.specs.Fields.{bytes_of}
use Rattle.header_judge.specs.Version.{word_from}
use Rattle.header_judge.specs.declared.RecordSize.{RecordSize}
use Rattle.header.specs.Layouts.{table_of, status_word, count_half}
use Rattle.header.specs.Access.{layout_in, count_in}
use Rattle.header.specs.declared.Header.{Header}
use Rattle.header.specs.declared.Stamp.{Stamp}
use Rattle.header.specs.declared.HeaderType.{HeaderType}
use Rattle.header.specs.declared.HeaderType.TheVariants.{Type0, Type1, Type2, Type3, Type4, Type5, Type6, Type0LegacyServer, Type0LegacyGpu}

-- ---- what layouts begin with, as the tables `sized`, `stamped` and `legacy_stamped`

abbrev pub sized_numbers : ℕ → RecordSize → List ℕ → List ℕ
sized_numbers word z vs = word ∷ z.record_size ∷ z.extended_record_size ∷ vs

abbrev pub stamped_numbers : ℕ → RecordSize → Stamp → List ℕ → List ℕ
stamped_numbers word z p vs = sized_numbers word z (p.timestamp ∷ p.agent_version ∷ p.reason ∷ vs)

abbrev pub legacy_numbers : ℕ → RecordSize → Stamp → List ℕ → List ℕ
legacy_numbers word z p vs = word ∷ p.reason ∷ p.timestamp ∷ z.record_size ∷ 0 ∷ p.agent_version ∷ vs

-- ---- a whole header

-- the numbers of a version word, the sizes, the fields and the status words
abbrev pub values_for : ℕ → RecordSize → HeaderType → List ℕ → List ℕ
values_for word z Type0 ws = sized_numbers word z []
values_for word z Type1 ws = sized_numbers word z []
values_for word z (Type2 p) ws = stamped_numbers word z p []
values_for word z (Type3 p s) ws = stamped_numbers word z p (status_word s ∷ [])
values_for word z (Type4 p w m) ws = stamped_numbers word z p (w ∷ m ∷ [])
values_for word z (Type5 p s e) ws = stamped_numbers word z p (status_word s ∷ e ∷ [])
values_for word z (Type6 p d k n c) ws = stamped_numbers word z p (d ∷ k ∷ count_half n c ∷ take n ws)
values_for word z (Type0LegacyServer p d k s) ws = legacy_numbers word z p (k ∷ 0 ∷ status_word s ∷ [])
values_for word z (Type0LegacyGpu p s) ws = legacy_numbers word z p (0 ∷ status_word s ∷ [])

unfoldable pub values_of : Header → List ℕ
values_of h = values_for (word_from h.version) h.size h.header_type h.completion_statuses

-- the header's bytes
unfoldable pub header_bytes : Header → List ℕ
header_bytes h = bytes_of (table_of (layout_in h.header_type) (count_in h.header_type)) (values_of h)
