-- Every name is text of at most 16 bytes, and the zeros after it begin where it ends: so the library's padded entry gives it back.
-- Three tests that antt computes over the table, and one law that makes a test hold of the name that is looked up. Assumes nothing.
use mathlib.Core.Path.{◌≡◌, refl, ap}
use mathlib.Core.Bool.{Bool, true, false, cond, not, ◌&&◌}
use mathlib.Core.List.{List, [], ◌∷◌, ◌++◌}
use Prim.Native.Nat.{ℕ, zero, suc, ◌-◌, ◌≤◌}
use lib.Dec.{eqb, leb}
use lib.ListN.{length, replicate}
use lib.Seq.{take-append_seam}
use lib.Utf8.{encode}
use borrow.Author.Tests.{leb-true, not-true}
use Rattle.std.specs.Prelude.{Option, Some, None, map}
use Rattle.std.specs.List.{position_or_len, find}
use Rattle.std.specs.Str.{IsUtf8, is_utf8, chars}
use Rattle.std.proofs.lemmas.Str.{IsUtf8-from_is_utf8}
use Rattle.std.proofs.Math.Numerals.{one-add}
use Rattle.basics.proofs.Bools.{both}
use Rattle.names.specs.Names.{Table, named, unknown, lookup, text_of, padded}
use Rattle.names.specs.Steps.{held, before_zero}

-- a test of UNKNOWN and of every name of a table
every : (List ℕ → Bool) → Table → Bool
every test [] = test unknown
every test ((code, name) ∷ rest) = test name && every test rest

picked : (test : List ℕ → Bool) (b : Bool) (xs ys : List ℕ) → test xs ≡ true → test ys ≡ true → test (cond b xs ys) ≡ true
picked test true xs ys this other = this
picked test false xs ys this other = other

passes : (test : List ℕ → Bool) (t : ℕ) (table : Table) → every test table ≡ true → test (lookup t table) ≡ true
unfolding lookup every
passes test t [] h = h
passes test t ((code, name) ∷ rest) h =
    let (this, others) = both (test name) (every test rest) h in
    picked test (eqb t code) name (lookup t rest) this (passes test t rest others)

fits : List ℕ → Bool
fits name = leb (length name) 16

pub length_text : (t : ℕ) → length (text_of t) ≤ 16
unfolding text_of named fits every
length_text t = leb-true (length (text_of t)) 16 (passes fits t named refl)

-- no byte of a name is zero
full : List ℕ → Bool
full [] = true
full (byte ∷ bytes) = not (eqb byte 0) && full bytes

first_zero : (name : List ℕ) (n : ℕ) → full name ≡ true → position_or_len (λ byte. eqb byte 0) (name ++ replicate n 0) ≡ length name
unfolding full
first_zero [] zero h = refl
first_zero [] (suc n) h = refl
first_zero (byte ∷ bytes) n h =
    let (this, others) = both (not (eqb byte 0)) (full bytes) h in
    rw (not-true (eqb byte 0) this, one-add) (ap suc (first_zero bytes n others))

-- a padded name ends at its first zero
pub name_ends : (t : ℕ) → position_or_len (λ byte. eqb byte 0) (padded (text_of t)) ≡ length (text_of t)
unfolding padded text_of named full every
name_ends t = first_zero (text_of t) (16 - length (text_of t)) (passes full t named refl)

-- what stands before the first zero of a padded name
unpadded : (name : List ℕ) → full name ≡ true → before_zero (padded name) ≡ name
unfolding padded
unpadded name h =
    let zeros = replicate (16 - length name) 0 in
    rw (first_zero name (16 - length name) h) (take-append_seam name zeros)

-- the name in an entry of the library's table that is found
abbrev pub name_in : Option (ℕ × List ℕ) → List ℕ
name_in None = unknown
name_in (Some entry) = before_zero entry.1

here_or : (b : Bool) (entry : ℕ × List ℕ) (rest : Option (ℕ × List ℕ)) → name_in (cond b (Some entry) rest) ≡ cond b (before_zero entry.1) (name_in rest)
here_or true entry rest = refl
here_or false entry rest = refl

found_in : (t : ℕ) (table : Table) → every full table ≡ true → name_in (find (λ entry. eqb t entry.0) (map held table)) ≡ lookup t table
unfolding lookup every
found_in t [] h = refl
found_in t ((code, name) ∷ rest) h =
    let (this, others) = both (full name) (every full rest) h in
    rw (here_or (eqb t code) (held (code, name)) (find (λ entry. eqb t entry.0) (map held rest)), unpadded name this, found_in t rest others) refl

-- the first entry of the type that the library's table has holds the type's name
pub name_found : (t : ℕ) → name_in (find (λ entry. eqb t entry.0) (map held named)) ≡ text_of t
unfolding text_of named full every
name_found t = found_in t named refl

pub is_text : (t : ℕ) → IsUtf8 (text_of t)
unfolding text_of named every is_utf8 chars encode
is_text t = IsUtf8-from_is_utf8 (text_of t) (passes is_utf8 t named refl)
