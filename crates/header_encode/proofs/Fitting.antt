-- Whether a header can be encoded, by its parts, and what follows where it can.
-- By the parts of the conjunctions. Assumes nothing.
use mathlib.Core.Path.{◌≡◌}
use mathlib.Core.Bool.{Bool, true, false, ◌&&◌}
use mathlib.Core.List.{List}
use Prim.Native.Nat.{ℕ, ◌≤◌}
use lib.Dec.{ltb}
use borrow.Author.Tests.{ltb-true, eq-eqb, ne_eqb}
use Rattle.basics.proofs.Bools.{both}
use Rattle.header_judge.specs.Version.{InBits, no_word, end_mark, word_from}
use Rattle.header_judge.specs.declared.version.Version.{Version}
use Rattle.header.specs.Access.{count_in}
use Rattle.header.specs.declared.Header.{Header}
use Rattle.header_write.specs.Fit.{fields_fit}
use Rattle.header_write.proofs.Writing.{small_fields}
use Rattle.header_encode.specs.Encode.{version_fits, readable, layout_fits, encodable}

-- a version that fits is within its bits
pub in_bits : (v : Version) → version_fits v ≡ true → InBits v
in_bits v e =
    let a = ltb v.revision 256 in
    let b = ltb v.header_type 16 in
    let c = ltb v.product_id 4096 in
    let d = ltb v.record_type 64 in
    let p = both a (b && (c && d)) e in
    let q = both b (c && d) p.1 in
    let r = both c d q.1 in
    record {
      revision = ltb-true v.revision 256 p.0;
      header = ltb-true v.header_type 16 q.0;
      product = ltb-true v.product_id 4096 r.0;
      kind = ltb-true v.record_type 64 r.1;
    }

module _ (rules : List ℕ) (h : Header) where
  abbrev word : ℕ
  word = word_from h.version

  abbrev fit : Bool
  fit = fields_fit h.header_type h.version.revision h.size.extended_record_size

  abbrev chosen : Bool
  chosen = layout_fits rules word h.header_type

  -- ---- the refusals, in their order

  pub not_in_bits : version_fits h.version ≡ false → false ≡ encodable rules h
  unfolding encodable
  not_in_bits e = rw e

  pub not_zero : version_fits h.version ≡ true → word ≡ no_word → false ≡ encodable rules h
  unfolding encodable
  not_zero e f = rw (e, eq-eqb word no_word f)

  pub not_marked : version_fits h.version ≡ true → (word ≡ no_word → ⊥) → word ≡ end_mark → false ≡ encodable rules h
  unfolding encodable
  not_marked e z f = rw (e, ne_eqb word no_word z, eq-eqb word end_mark f)

  pub not_chosen : version_fits h.version ≡ true → (word ≡ no_word → ⊥) → (word ≡ end_mark → ⊥) → chosen ≡ false → false ≡ encodable rules h
  unfolding encodable
  not_chosen e z m f = rw (e, ne_eqb word no_word z, ne_eqb word end_mark m, f)

  pub as_fit : version_fits h.version ≡ true → (word ≡ no_word → ⊥) → (word ≡ end_mark → ⊥) → chosen ≡ true → fit ≡ encodable rules h
  unfolding encodable
  as_fit e z m f = rw (e, ne_eqb word no_word z, ne_eqb word end_mark m, f)

  -- ---- a header that can be encoded

  pub can_version : encodable rules h ≡ true → version_fits h.version ≡ true
  unfolding encodable
  can_version e = (both (version_fits h.version) (readable word && (chosen && fit)) e).0

  pub can_read : encodable rules h ≡ true → readable word ≡ true
  unfolding encodable
  can_read e = (both (readable word) (chosen && fit) (both (version_fits h.version) (readable word && (chosen && fit)) e).1).0

  pub can_choose : encodable rules h ≡ true → chosen ≡ true
  unfolding encodable
  can_choose e = (both chosen fit (both (readable word) (chosen && fit) (both (version_fits h.version) (readable word && (chosen && fit)) e).1).1).0

  pub can_fit : encodable rules h ≡ true → fit ≡ true
  unfolding encodable
  can_fit e = (both chosen fit (both (readable word) (chosen && fit) (both (version_fits h.version) (readable word && (chosen && fit)) e).1).1).1

-- it has at most 127 status words
pub can_count : (rules : List ℕ) (h : Header) → encodable rules h ≡ true → count_in h.header_type ≤ 127
can_count rules h e = (small_fields h.header_type h.version.revision h.size.extended_record_size (can_fit rules h e)).1
