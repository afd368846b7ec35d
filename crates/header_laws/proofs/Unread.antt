-- The numbers of a header that was read are those of its bytes with unread bits as 0, and its fields fit.
-- Layout for layout; a number that two fields share by arithmetic, an unread one as a number put at its field. Assumes nothing.
use mathlib.Core.Path.{◌≡◌, refl, sym, ap, ◌∙◌}
use mathlib.Core.Bool.{true}
use mathlib.Core.List.{List}
use Prim.Native.Nat.{ℕ, ◌-◌, ◌%◌, ◌^◌, ◌≤◌, ◌<◌}
use native.Mathlib.Omega.{arith}
use lib.ListN.{length, take, set, replicate}
use lib.Seq.{take_at}
use borrow.Author.Tests.{lt-ltb, le-leb, eq-eqb}
use Rattle.le.specs.Le.{le, put}
use Rattle.le.proofs.Laws.{pow_positive, le_lt, length-put}
use Rattle.layout.specs.Fields.{Field, read_all}
use Rattle.layout.specs.Runs.{cells}
use Rattle.layout.proofs.Full.{full_fits}
use Rattle.layout.proofs.Puts.{field_at, read_put, put-bytes}
use Rattle.header_judge.specs.Version.{revision}
use Rattle.header_judge.specs.Head.{size_for, count_of, server_die}
use Rattle.header_judge.specs.declared.Layout.{Layout}
use Rattle.header_judge.specs.declared.Layout.TheVariants.{Zero, One, Two, Three, Four, Five, Six, LegacyServer, LegacyGpu, Bad}
use Rattle.header_judge.proofs.Sizes.{count_there}
use Rattle.header.specs.Layouts.{table_of, low_count, padded}
use Rattle.header.proofs.Statuses.{length-words}
use Rattle.header_write.specs.Fit.{fields_fit}
use Rattle.header_write.specs.Values.{values_for}
use Rattle.header_encode.proofs.Tables.{tables_full}
use Rattle.header_laws.specs.Typed.{Bytes}
use Rattle.header_laws.specs.Rounds.{clean_half, unread_zero}
use Rattle.header_laws.proofs.Bits.{status_back, half_back}
use Rattle.header_laws.proofs.Layouts.{is_legacy}
use Rattle.header_laws.proofs.Numbers.{Parts, sizes_at, parts_at}

-- the status words, without the zeros past them
words_back : (bs : List ℕ) → 28 ≤ length bs
    → take (low_count (le 2 bs 26)) (padded (read_all (cells 28 4 (count_of bs)) bs)) ≡ read_all (cells 28 4 (count_of bs)) bs
words_back bs h =
    let ws = read_all (cells 28 4 (count_of bs)) bs in
    take_at ws (replicate (127 - length ws) 0) (low_count (le 2 bs 26)) (length-words bs (count_of bs) ∙ sym (count_there bs h (le 2 bs 26) refl))

-- ---- the fields of a header that was read

pub fits_read : (bs : List ℕ) (l : Layout) (n : ℕ)
    → fields_fit (parts_at bs l (table_of l n)).fields (revision (le 4 bs 0)) (sizes_at (is_legacy l) bs).extended_record_size ≡ true
unfolding read_all
fits_read bs Zero n = refl
fits_read bs One n = refl
fits_read bs Two n = refl
fits_read bs Three n = lt-ltb (le 4 bs 24 % 2147483648) 2147483648 (omega arith)
fits_read bs Four n = refl
fits_read bs Five n = lt-ltb (le 4 bs 24 % 2147483648) 2147483648 (omega arith)
fits_read bs Six n = le-leb (low_count (le 2 bs 26)) 127 (omega arith)
fits_read bs LegacyServer n =
    let die = server_die (revision (le 4 bs 0)) in
    rw (lt-ltb (le 4 bs 28 % 2147483648) 2147483648 (omega arith)) (eq-eqb die die refl)
fits_read bs LegacyGpu n = rw (lt-ltb (le 4 bs 28 % 2147483648) 2147483648 (omega arith))
fits_read bs Bad n = refl

-- ---- the numbers of a header that was read

-- the `k`-th number of a layout changed is its field changed
module _ (l : Layout) (n : ℕ) where
  abbrev at : ℕ → Field
  at k = field_at (table_of l n) k

  read_put_at : (bs : List ℕ) (k x : ℕ) → size_for l n ≤ length bs → k < length (table_of l n) → x < 256 ^ (at k).width
      → set (read_all (table_of l n) bs) k x ≡ read_all (table_of l n) (put (at k).width bs (at k).at x)
  read_put_at bs k x room h b =
      sym (read_put (size_for l n) 0 (table_of l n) bs k x (full_fits (table_of l n) (size_for l n) (tables_full l n)) room h b)

  -- two of them changed to 0
  read_zero_two : (bs : List ℕ) (j k : ℕ) → size_for l n ≤ length bs → j < length (table_of l n) → k < length (table_of l n)
      → set (set (read_all (table_of l n) bs) j 0) k 0 ≡ read_all (table_of l n) (put (at k).width (put (at j).width bs (at j).at 0) (at k).at 0)
  read_zero_two bs j k room h g =
      ap (λ (vs : List ℕ). set vs k 0) (read_put_at bs j 0 room h (pow_positive (at j).width))
      ∙ read_put_at (put (at j).width bs (at j).at 0) k 0 (omega (arith, length-put (at j).width bs (at j).at 0)) g (pow_positive (at k).width)

abbrev values_in : Parts → List ℕ
values_in p = values_for p.word p.size p.fields p.words

pub values_read : (bs : List ℕ) → Bytes bs → (l : Layout) → 0 < size_for l (count_of bs) → size_for l (count_of bs) ≤ length bs
    → values_in (parts_at bs l (table_of l (count_of bs))) ≡ read_all (table_of l (count_of bs)) (unread_zero l bs)
unfolding read_all
values_read bs bytes Zero h room = refl
values_read bs bytes One h room = refl
values_read bs bytes Two h room = refl
values_read bs bytes Three h room = rw (status_back (le 4 bs 24) (le_lt bs bytes 24 4))
values_read bs bytes Four h room = refl
values_read bs bytes Five h room = rw (status_back (le 4 bs 24) (le_lt bs bytes 24 4))
values_read bs bytes Six h room =
    rw (half_back (le 2 bs 26), words_back bs (omega arith))
    (read_put_at Six (count_of bs) bs 8 (clean_half (le 2 bs 26)) room (omega arith) (omega arith))
values_read bs bytes LegacyServer h room =
    rw (status_back (le 4 bs 28) (le_lt bs bytes 28 4)) (read_zero_two LegacyServer 0 bs 4 7 room (omega arith) (omega arith))
values_read bs bytes LegacyGpu h room =
    rw (status_back (le 4 bs 28) (le_lt bs bytes 28 4)) (read_zero_two LegacyGpu 0 bs 4 6 room (omega arith) (omega arith))
values_read bs bytes Bad h room = absurd (omega arith)

-- ---- bytes with unread bits as 0

-- what a number put keeps
unread_keeps : (P : List ℕ → Type 0) → ((w at x : ℕ) (cs : List ℕ) → P cs → P (put w cs at x)) → (l : Layout) (bs : List ℕ) → P bs → P (unread_zero l bs)
unread_keeps P keep Zero bs p = p
unread_keeps P keep One bs p = p
unread_keeps P keep Two bs p = p
unread_keeps P keep Three bs p = p
unread_keeps P keep Four bs p = p
unread_keeps P keep Five bs p = p
unread_keeps P keep Six bs p = keep 2 26 (clean_half (le 2 bs 26)) bs p
unread_keeps P keep LegacyServer bs p = keep 3 25 0 (put 2 bs 18 0) (keep 2 18 0 bs p)
unread_keeps P keep LegacyGpu bs p = keep 4 24 0 (put 2 bs 18 0) (keep 2 18 0 bs p)
unread_keeps P keep Bad bs p = p

-- they are bytes, and as many
pub unread_bytes : (l : Layout) (bs : List ℕ) → Bytes bs → Bytes (unread_zero l bs) × (length (unread_zero l bs) ≡ length bs)
unread_bytes l bs bytes =
    unread_keeps (λ (cs : List ℕ). Bytes cs × (length cs ≡ length bs)) (λ w at x cs q. (put-bytes w cs at x q.0, length-put w cs at x ∙ q.1)) l bs (bytes, refl)
