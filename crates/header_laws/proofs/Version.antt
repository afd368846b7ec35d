-- The fields of a version word make the word, and the word that some fields make has those fields.
-- A word is peeled field by field from its lowest bit on; a sum's fields are its terms. Assumes nothing.
use mathlib.Core.Path.{◌≡◌, sym, ap, ◌∙◌}
use Prim.Native.Nat.{ℕ, ◌+◌, ◌*◌, ◌/◌, ◌%◌, ◌^◌, ◌<◌}
use native.Mathlib.Nat.{div-div-eq-div-mul, div-add-mod'}
use native.Mathlib.Omega.{arith}
use Rattle.header_judge.specs.Version.{version_of, InBits, bit, word_from}
use Rattle.header_judge.specs.declared.version.Version.{Version}
use Rattle.header_laws.proofs.Bits.{bit_eqb, eqb_bit, bit_le}

-- ---- the word of a word's fields

-- a field of `m` values, with what stands above it
peel : (word p m : ℕ) → word / p ≡ word / (p * m) * m + word / p % m
peel word p m = sym (ap (λ (q : ℕ). q * m + word / p % m) (sym (div-div-eq-div-mul word p m)) ∙ div-add-mod' (word / p) m)

together : {word q1 q2 q3 q4 : ℕ} (r t p y c d : ℕ) → word ≡ q1 * 256 + r → q1 ≡ q2 * 16 + t → q2 ≡ q3 * 4096 + p → q3 ≡ q4 * 64 + y → q4 ≡ d * 2 + c
    → r + t * 256 + p * 4096 + y * 16777216 + c * 1073741824 + d * 2147483648 ≡ word
together r t p y c d e1 e2 e3 e4 e5 = omega arith

pub word_version : (word : ℕ) → word < 2 ^ 32 → word_from (version_of word) ≡ word
word_version word h =
    let top : word / 2147483648 % 2 ≡ word / 2147483648 = omega arith in
    rw (bit_eqb (word / 1073741824 % 2) (omega arith), bit_eqb (word / 2147483648 % 2) (omega arith), top)
    (together (word % 256) (word / 256 % 16) (word / 4096 % 4096) (word / 16777216 % 64) (word / 1073741824 % 2) (word / 2147483648)
    (sym (div-add-mod' word 256)) (peel word 256 16) (peel word 4096 4096) (peel word 16777216 64) (peel word 1073741824 2))

-- ---- the fields of the word of some fields

-- the terms of the word are its fields
record Apart (word : ℕ) (v : Version) : Type 0 where
  revision : word % 256 ≡ v.revision
  header : word / 256 % 16 ≡ v.header_type
  product : word / 4096 % 4096 ≡ v.product_id
  kind : word / 16777216 % 64 ≡ v.record_type
  cldic : word / 1073741824 % 2 ≡ bit v.cldic
  consumed : word / 2147483648 % 2 ≡ bit v.consumed

module _ (v : Version) (b : InBits v) where
  abbrev word : ℕ
  word = word_from v

  apart : Apart word v
  apart = omega (arith, bit_le v.cldic, bit_le v.consumed)

  pub version_word : version_of (word_from v) ≡ v
  version_word =
      rw (
        apart.revision,
        apart.header,
        apart.product,
        apart.kind,
        eqb_bit v.cldic (word / 1073741824 % 2) apart.cldic,
        eqb_bit v.consumed (word / 2147483648 % 2) apart.consumed,
      )

  pub word_lt : word_from v < 2 ^ 32
  word_lt = omega (arith, bit_le v.cldic, bit_le v.consumed)
