-- Each layout's table takes up the whole header, and a header has a number for each of its fields; so writing gives the header's bytes.
-- By the computed test, layout for layout; the run of status words by induction. Assumes nothing.
use mathlib.Core.Path.{◌≡◌, refl, sym, ap, ◌∙◌}
use mathlib.Core.Bool.{true}
use mathlib.Core.List.{List, ◌++◌}
use Prim.Native.Nat.{ℕ, zero, suc, ◌+◌, ◌*◌, ◌≤◌}
use native.Mathlib.Nat.{add-zero, mul-suc}
use native.Mathlib.Omega.{arith}
use lib.ListN.{length, drop}
use lib.Seq.{length-take-le}
use borrow.Author.Tests.{eq-eqb}
use Rattle.layout.specs.Fields.{full_from, full}
use Rattle.layout.specs.Runs.{cells_from}
use Rattle.layout.proofs.Full.{write_full}
use Rattle.layout.proofs.Runs.{length-cells}
use Rattle.header_judge.specs.Version.{word_from}
use Rattle.header_judge.specs.Head.{size_for}
use Rattle.header_judge.specs.declared.RecordSize.{RecordSize}
use Rattle.header_judge.specs.declared.Layout.{Layout}
use Rattle.header_judge.specs.declared.Layout.TheVariants.{Zero, One, Two, Three, Four, Five, Six, LegacyServer, LegacyGpu, Bad}
use Rattle.header.specs.Layouts.{table_of}
use Rattle.header.specs.Access.{layout_in, count_in, header_size}
use Rattle.header.specs.declared.Header.{Header}
use Rattle.header.specs.declared.HeaderType.{HeaderType}
use Rattle.header.specs.declared.HeaderType.TheVariants.{Type0, Type1, Type2, Type3, Type4, Type5, Type6, Type0LegacyServer, Type0LegacyGpu}
use Rattle.header_write.specs.Values.{values_for, values_of, header_bytes}
use Rattle.header_write.specs.Steps.{written}

-- a run has no gap
full_cells : (at w k n lo end : ℕ) → lo ≡ at + w * k → end ≡ at + w * (k + n) → full_from lo (cells_from at w k n) end ≡ true
full_cells at w k zero lo end e f = eq-eqb lo end (e ∙ ap (λ (i : ℕ). at + w * i) (sym (add-zero k)) ∙ sym f)
full_cells at w k (suc n) lo end e f =
    let next : at + w * k + w ≡ at + w * suc k = omega (arith, mul-suc w k) in
    let same : suc k + n ≡ k + suc n = omega arith in
    rw (eq-eqb lo (at + w * k) e) (full_cells at w (suc k) n (at + w * k + w) end next (f ∙ ap (λ (i : ℕ). at + w * i) (sym same)))

pub tables_full : (l : Layout) (n : ℕ) → full (table_of l n) (size_for l n) ≡ true
tables_full Zero n = refl
tables_full One n = refl
tables_full Two n = refl
tables_full Three n = refl
tables_full Four n = refl
tables_full Five n = refl
tables_full Six n =
    let e : 0 + n ≡ n = omega arith in
    full_cells 28 4 0 n 28 (28 + 4 * n) refl (ap (λ (i : ℕ). 28 + 4 * i) (sym e))
tables_full LegacyServer n = refl
tables_full LegacyGpu n = refl
tables_full Bad n = refl

values_length : (word : ℕ) (z : RecordSize) (t : HeaderType) (ws : List ℕ) → count_in t ≤ length ws
    → length (values_for word z t ws) ≡ length (table_of (layout_in t) (count_in t))
values_length word z Type0 ws few = refl
values_length word z Type1 ws few = refl
values_length word z (Type2 p) ws few = refl
values_length word z (Type3 p s) ws few = refl
values_length word z (Type4 p w m) ws few = refl
values_length word z (Type5 p s e) ws few = refl
values_length word z (Type6 p d k n c) ws few = omega (arith, length-take-le n ws few, length-cells 28 4 0 n)
values_length word z (Type0LegacyServer p d k s) ws few = refl
values_length word z (Type0LegacyGpu p s) ws few = refl

-- a number for each field
pub length_values : (h : Header) → count_in h.header_type ≤ length h.completion_statuses
    → length (values_of h) ≡ length (table_of (layout_in h.header_type) (count_in h.header_type))
unfolding values_of
length_values h few = values_length (word_from h.version) h.size h.header_type h.completion_statuses few

-- writing a header gives its bytes
pub written_bytes : (h : Header) (out : List ℕ) → count_in h.header_type ≤ length h.completion_statuses → header_size h.header_type ≤ length out
    → written (word_from h.version) h.size h.header_type h.completion_statuses out ≡ header_bytes h ++ drop (header_size h.header_type) out
unfolding header_bytes values_of
written_bytes h out few room =
    let l = layout_in h.header_type in
    let n = count_in h.header_type in
    write_full (size_for l n) (table_of l n) (tables_full l n) (values_of h) out (length_values h few) room
