-- Decode after encode gives the header back, for every header that encode takes.
-- The bytes' numbers are the header's; word, flags, layout, sizes, fields and status words follow from them. Assumes nothing.
use mathlib.Core.Path.{◌≡◌, sym, ap, ap₂, ◌∙◌}
use mathlib.Core.Bool.{Bool, true, false, cond, not}
use mathlib.Core.List.{List, ◌++◌}
use Prim.Native.Nat.{ℕ, ◌≤◌}
use native.Mathlib.Omega.{arith}
use lib.Dec.{eqb}
use lib.ListN.{length, take, drop, length-append}
use borrow.Author.Tests.{ne_eqb, eqb-false, not-true}
use Rattle.std.proofs.Common.{Ok}
use Rattle.layout.specs.Fields.{Field, read_all}
use Rattle.basics.proofs.Bools.{both}
use Rattle.layout.proofs.Full.{read_full, length-bytes}
use Rattle.rules.specs.Rules.{valid_of, flags_of}
use Rattle.header_judge.specs.Version.{no_word, end_mark, word_of, revision, version_of, InBits, word_from}
use Rattle.header_judge.specs.Head.{legacy, declared_of, layout_of, sizes_end, no_size, size_for, count_of, layout_size, Complete, summary_of, head_with, head_of}
use Rattle.header_judge.specs.declared.version.Version.{Version}
use Rattle.header_judge.specs.declared.Layout.{Layout}
use Rattle.header_judge.proofs.Words.{word_there}
use Rattle.header_judge.proofs.Heads.{head_record}
use Rattle.header_judge.proofs.Sizes.{size_long}
use Rattle.header.specs.Layouts.{table_of, padded}
use Rattle.header.specs.Header.{header_of, decoded_of}
use Rattle.header.specs.Access.{layout_in, count_in, header_size, record_bytes}
use Rattle.header.specs.declared.Header.{Header}
use Rattle.header.specs.declared.HeaderType.{HeaderType}
use Rattle.header_encode.specs.declared.Refusal.{Refusal}
use Rattle.std.specs.Prelude.{Result, Ok}
use Rattle.header_write.specs.Values.{values_for, values_of, header_bytes}
use Rattle.header_write.specs.Fit.{fields_fit}
use Rattle.header_encode.specs.Encode.{encodable, encoded_of}
use Rattle.header_encode.proofs.Layouts.{same_number}
use Rattle.header_encode.proofs.Fitting.{in_bits, can_version, can_read, can_choose, can_fit, can_count}
use Rattle.header_encode.proofs.Tables.{tables_full, length_values}
use Rattle.header_laws.specs.Typed.{Typed}
use Rattle.header_laws.specs.Rounds.{cleared, decoded_as}
use Rattle.header_laws.proofs.Version.{version_word, word_lt}
use Rattle.header_laws.proofs.Layouts.{shape_for, shape_read, is_legacy, legacy_layout, sizes_within}
use Rattle.header_laws.proofs.Numbers.{Parts, parts, header_with, parts_from, parts_at, parts_read, header_read, parts_values, below_values}
use Rattle.header_laws.proofs.Agree.{record_decoded}
use Rattle.header_encode.proofs.Encoded.{encoded_is}

-- the size fields end past the first 8 bytes
size_least : (b : Bool) {size : ℕ} → cond b 18 8 ≤ size → 8 ≤ size
size_least true h = omega arith
size_least false h = h

-- ---- the bytes of a header, and any others after them

module _ (rules : List ℕ) (valid : valid_of rules ≡ true) (h : Header) (can : encodable rules h ≡ true) (typed : Typed h) (rest : List ℕ) where
  abbrev t : HeaderType
  t = h.header_type

  abbrev l : Layout
  l = layout_in t

  abbrev n : ℕ
  n = count_in t

  abbrev ws : List ℕ
  ws = h.completion_statuses

  abbrev word : ℕ
  word = word_from h.version

  abbrev flags : ℕ
  flags = flags_of rules word

  abbrev size : ℕ
  size = header_size t

  abbrev bs : List ℕ
  bs = header_bytes h ++ rest

  bits : InBits h.version
  bits = in_bits h.version (can_version rules h can)

  version_is : version_of word ≡ h.version
  version_is = version_word h.version bits

  fit : fields_fit t (revision word) h.size.extended_record_size ≡ true
  fit = ap (λ (v : Version). fields_fit t v.revision h.size.extended_record_size) version_is ∙ can_fit rules h can

  few : n ≤ length ws
  few = omega (arith, can_count rules h can, typed.count)

  -- the numbers of the bytes are the header's
  numbers : read_all (table_of l n) bs ≡ values_for word h.size t ws
  unfolding header_bytes values_of
  numbers =
      read_full size (table_of l n) (tables_full l n) (values_for word h.size t ws) rest
      (below_values word h.size ws (word_lt h.version bits) typed.size typed.extended (omega (arith, typed.count)) typed.words t typed.fields fit)

  room : size ≤ length bs
  unfolding header_bytes
  room = simp length-append (omega (arith, length-bytes size (table_of l n) (tables_full l n) (values_of h) (length_values h few)))

  -- and so are the parts
  parts_are : parts_at bs l (table_of l n) ≡ parts word h.size t (padded (take n ws))
  parts_are = parts_read bs t n ∙ ap (parts_from l) numbers ∙ parts_values word h.size ws t fit

  layout_is : layout_of word flags ≡ l
  layout_is = same_number (layout_of word flags) l (can_choose rules h can)

  legacy_is : legacy flags ≡ is_legacy l
  legacy_is = legacy_layout word flags ∙ ap is_legacy layout_is

  -- the count in the bytes is the header's, as far as its layout has one
  shape_is : shape_for l (count_of bs) ≡ shape_for l n
  shape_is = sym (shape_read bs l n room) ∙ ap (λ (p : Parts). shape_for l (count_in p.fields)) parts_are

  readable_word : (word ≡ no_word → ⊥) × (word ≡ end_mark → ⊥)
  readable_word =
      let q = both (not (eqb word no_word)) (not (eqb word end_mark)) (can_read rules h can) in
      (eqb-false word no_word (not-true (eqb word no_word) q.0), eqb-false word end_mark (not-true (eqb word end_mark) q.1))

  word_is : word_of bs ≡ word
  word_is =
      sym (word_there bs (omega (arith, room, size_least (is_legacy l) (sizes_within t))) word (ap (λ (p : Parts). p.word) (sym parts_are)) readable_word.1)

  size_is : layout_size bs word flags ≡ size
  size_is = ap (λ (k : Layout). size_for k (count_of bs)) layout_is ∙ ap (λ (s : List Field × ℕ). s.1) shape_is

  size_there : Complete bs word flags
  size_there =
      let ends : sizes_end flags ≡ cond (is_legacy l) 18 8 = ap (λ (b : Bool). cond b 18 8) legacy_is in
      let some : layout_size bs word flags ≡ no_size → ⊥ = λ e. omega (arith, size_is, size_least (is_legacy l) (sizes_within t)) in
      size_long bs word flags (omega (arith, ends, room, sizes_within t)) (rw size_is room) ∙ rw (ne_eqb (layout_size bs word flags) no_size some)

  head_is : head_of rules bs ≡ Ok (summary_of bs word flags)
  unfolding head_of
  head_is =
      ap (λ (w : ℕ). head_with bs w (flags_of rules w)) word_is
      ∙ head_record bs word flags readable_word.0 size_there

  header_is : header_of bs word flags ≡ cleared h
  header_is =
      header_read bs word flags
      ∙ ap₂ header_with version_is
      (ap (λ (k : Layout). parts_at bs k (table_of k (count_of bs))) layout_is
      ∙ ap (λ (s : List Field × ℕ). parts_at bs l s.0) shape_is
      ∙ parts_are)

  decoded_bytes : decoded_of rules bs ≡ Ok (decoded_as rules (cleared h))
  unfolding declared_of
  decoded_bytes =
      record_decoded rules bs valid head_is
      ∙ ap₂ (λ (k : Header) (z : ℕ). Ok (record { header = k; flags = flags; declared = record_bytes k flags; header_size = z })) header_is size_is

-- decode after encode
pub decode_encode : (rules : List ℕ) → valid_of rules ≡ true → (h : Header) → encodable rules h ≡ true → Typed h → (out : List ℕ) → header_size h.header_type ≤ length out
    → decoded_of rules (encoded_of rules h out).0 ≡ Ok (decoded_as rules (cleared h))
decode_encode rules valid h can typed out room =
    ap (λ (e : List ℕ × Result ℕ Refusal). decoded_of rules e.0) (encoded_is rules valid h can out room)
    ∙ decoded_bytes rules valid h can typed (drop (header_size h.header_type) out)
