-- The version word at the start of some bytes, and how the records end, by what the bytes are.
-- By the tests of the definitions, in their order. Assumes nothing.
use mathlib.Core.Path.{◌≡◌}
use mathlib.Core.List.{List}
use Prim.Native.Nat.{ℕ, ◌≤◌, ◌<◌}
use lib.ListN.{length}
use borrow.Author.Tests.{lt-ltb, le-ltb, eq-eqb, ne_eqb}
use Rattle.std.proofs.Common.{Ok, Err}
use Rattle.le.specs.Le.{le}
use Rattle.header_judge.specs.Version.{no_word, end_mark, word_of, ending_of, version_of, start_of}
use Rattle.header_judge.specs.declared.version.Ending.TheVariants.{ZeroWord, DeadbeefWord, FewBytes}

module _ (bs : List ℕ) where
  pub word_short : length bs < 4 → no_word ≡ word_of bs
  unfolding word_of
  word_short h = rw (lt-ltb (length bs) 4 h)

  pub word_marked : 4 ≤ length bs → (word : ℕ) → word ≡ le 4 bs 0 → word ≡ end_mark → no_word ≡ word_of bs
  unfolding word_of
  word_marked h word e m = rw (le-ltb (length bs) 4 h, ← e, eq-eqb word end_mark m)

  pub word_there : 4 ≤ length bs → (word : ℕ) → word ≡ le 4 bs 0 → (word ≡ end_mark → ⊥) → word ≡ word_of bs
  unfolding word_of
  word_there h word e f = rw (le-ltb (length bs) 4 h, ← e, ne_eqb word end_mark f)

  pub few_bytes_lem : length bs < 4 → FewBytes ≡ ending_of bs
  unfolding ending_of
  few_bytes_lem h = rw (lt-ltb (length bs) 4 h)

  pub deadbeef_word_lem : 4 ≤ length bs → (word : ℕ) → word ≡ le 4 bs 0 → word ≡ end_mark → DeadbeefWord ≡ ending_of bs
  unfolding ending_of
  deadbeef_word_lem h word e m = rw (le-ltb (length bs) 4 h, ← e, eq-eqb word end_mark m)

  pub zero_word_lem : 4 ≤ length bs → (word : ℕ) → word ≡ le 4 bs 0 → (word ≡ end_mark → ⊥) → ZeroWord ≡ ending_of bs
  unfolding ending_of
  zero_word_lem h word e f = rw (le-ltb (length bs) 4 h, ← e, ne_eqb word end_mark f)

  pub start_ended : word_of bs ≡ no_word → Err (ending_of bs) ≡ start_of bs
  start_ended e = rw (eq-eqb (word_of bs) no_word e)

  pub start_versioned : (word_of bs ≡ no_word → ⊥) → Ok (version_of (word_of bs)) ≡ start_of bs
  start_versioned f = rw (ne_eqb (word_of bs) no_word f)
