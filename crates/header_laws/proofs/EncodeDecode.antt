-- Encode after decode restores the header's bytes, with unread bits as 0, for all bytes that decode to a header.
-- The header's numbers are those of the bytes with unread bits as 0, and a table's bytes are made of its numbers. Assumes nothing.
use mathlib.Core.Path.{◌≡◌, sym, ap, ap₂, ◌∙◌}
use mathlib.Core.Bool.{true}
use mathlib.Core.List.{List, ◌++◌}
use Prim.Native.Nat.{ℕ, ◌%◌, ◌/◌, ◌≤◌}
use native.Mathlib.Omega.{arith}
use lib.ListN.{length, take, drop}
use borrow.Author.Tests.{lt-ltb}
use Rattle.le.proofs.Laws.{le_lt}
use Rattle.layout.specs.Fields.{Field, read_all, bytes_of}
use Rattle.layout.proofs.Full.{bytes_read}
use Rattle.rules.specs.Rules.{flags_of}
use Rattle.header_judge.specs.Version.{word_of, revision, version_of, word_from}
use Rattle.header_judge.specs.Head.{layout_of, size_for, count_of}
use Rattle.header_judge.specs.declared.Layout.{Layout}
use Rattle.header.specs.Layouts.{table_of}
use Rattle.header.specs.Header.{decoded_of}
use Rattle.header.specs.Access.{layout_in, count_in, header_size}
use Rattle.header.specs.declared.Header.{Header}
use Rattle.header.specs.declared.Decoded.{Decoded}
use Rattle.header_write.specs.Values.{values_for, values_of, header_bytes}
use Rattle.header_write.specs.Fit.{fields_fit}
use Rattle.header_encode.specs.Encode.{version_fits, encodable, encoded_of}
use Rattle.std.specs.Prelude.{Ok}
use Rattle.header_encode.proofs.Layouts.{number_same}
use Rattle.header_encode.proofs.Fitting.{as_fit}
use Rattle.header_encode.proofs.Tables.{tables_full}
use Rattle.header_laws.specs.Typed.{Bytes}
use Rattle.header_laws.specs.Rounds.{unread_zero, restored}
use Rattle.header_laws.proofs.Version.{word_version}
use Rattle.header_laws.proofs.Layouts.{layout_from, shape_for, shape_read}
use Rattle.header_laws.proofs.Numbers.{Parts, header_with, parts_at, header_read}
use Rattle.header_laws.proofs.Unread.{fits_read, values_read, unread_bytes}
use Rattle.header_laws.proofs.Done.{Known, done_known, known_decoded}
use Rattle.header_laws.proofs.Agree.{header_size_decoded}
use Rattle.header_encode.proofs.Encoded.{encoded_is}

-- the fields of a word are within their bits
version_fits_lem : (word : ℕ) → version_fits (version_of word) ≡ true
version_fits_lem word =
    rw (lt-ltb (word % 256) 256 (omega arith), lt-ltb (word / 256 % 16) 16 (omega arith), lt-ltb (word / 4096 % 4096) 4096 (omega arith))
    (lt-ltb (word / 16777216 % 64) 64 (omega arith))

module _ (rules bs : List ℕ) (bytes : Bytes bs) (found : Known rules bs) where
  abbrev word : ℕ
  word = word_of bs

  abbrev flags : ℕ
  flags = flags_of rules word

  abbrev l : Layout
  l = layout_of word flags

  abbrev n : ℕ
  n = count_of bs

  abbrev p : Parts
  p = parts_at bs l (table_of l n)

  abbrev h : Header
  h = header_with (version_of word) p

  word_back : word_from (version_of word) ≡ word
  word_back = word_version word (rw found.word_is (le_lt bs bytes 0 4))

  layout_is : layout_in p.fields ≡ l
  layout_is = layout_from l n (read_all (table_of l n) bs) found.some

  shape_is : shape_for (layout_in p.fields) (count_in p.fields) ≡ shape_for l n
  shape_is = ap (λ (k : Layout). shape_for k (count_in p.fields)) layout_is ∙ shape_read bs l n found.room

  can : encodable rules h ≡ true
  can =
      let chosen = ap (λ (w : ℕ). layout_of w (flags_of rules w)) word_back ∙ sym layout_is in
      sym
      (as_fit rules h (version_fits_lem word) (λ e. found.there (sym word_back ∙ e)) (λ e. found.unmarked (sym word_back ∙ e))
      (number_same (layout_of (word_from (version_of word)) (flags_of rules (word_from (version_of word)))) (layout_in p.fields) chosen))
      ∙ ap (λ (w : ℕ). fields_fit p.fields (revision w) p.size.extended_record_size) found.word_is
      ∙ fits_read bs l n

  values_are : values_of h ≡ read_all (table_of l n) (unread_zero l bs)
  unfolding values_of
  values_are =
      ap (λ (w : ℕ). values_for w p.size p.fields p.words) (word_back ∙ found.word_is)
      ∙ values_read bs bytes l found.some found.room

  bytes_are : header_bytes h ≡ restored p.fields bs
  unfolding header_bytes
  bytes_are =
      let kept = unread_bytes l bs bytes in
      ap₂ (λ (s : List Field × ℕ) (vs : List ℕ). bytes_of s.0 vs) shape_is values_are
      ∙ bytes_read (size_for l n) (table_of l n) (tables_full l n) (unread_zero l bs) kept.0 (omega (arith, kept.1, found.room))
      ∙ ap₂ (λ (s : List Field × ℕ) (k : Layout). take s.1 (unread_zero k bs)) (sym shape_is) (sym layout_is)

  header_is : (d : Decoded) → decoded_of rules bs ≡ Ok d → d.header ≡ h
  header_is d done = ap (λ (d : Decoded). d.header) (known_decoded rules bs found done) ∙ header_read bs word flags

module _ (rules bs : List ℕ) (bytes : Bytes bs) (d : Decoded) (done : decoded_of rules bs ≡ Ok d) where
  -- encode takes every header that was decoded
  pub decoded_encodable : encodable rules d.header ≡ true
  decoded_encodable = let found = done_known rules bs done in rw (header_is rules bs bytes found d done) (can rules bs bytes found)

  -- its bytes are those that it was decoded from, unread bits as 0
  pub bytes_restored : header_bytes d.header ≡ restored d.header.header_type bs
  bytes_restored = let found = done_known rules bs done in rw (header_is rules bs bytes found d done) (bytes_are rules bs bytes found)

  -- encode after decode
  pub encode_decode : (out : List ℕ) → d.header_size ≤ length out
      → encoded_of rules d.header out ≡ (restored d.header.header_type bs ++ drop d.header_size out, Ok d.header_size)
  encode_decode out room =
      let size : d.header_size ≡ header_size d.header.header_type = header_size_decoded rules bs d done in
      encoded_is rules (done_known rules bs done).valid d.header decoded_encodable out (omega arith)
      ∙ ap₂ (λ (b : List ℕ) (z : ℕ). (b ++ drop z out, Ok z)) bytes_restored (sym size)
