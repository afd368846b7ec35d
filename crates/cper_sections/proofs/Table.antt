-- Rows written one after the other while one is free are the rows of as many sections as there is room for.
-- By induction over the sections, the free rows falling. Assumes nothing.
use mathlib.Core.Path.{◌≡◌, sym, ap, ap₂, ◌∙◌}
use mathlib.Core.List.{List, [], ◌∷◌, ◌++◌, append_assoc, append-nil}
use mathlib.Core.Bool.{Bool, true, false, cond}
use Prim.Native.Nat.{ℕ, zero, suc, ◌+◌, ◌*◌, ◌/◌, ◌≤◌, ◌<◌}
use native.Mathlib.Nat.{add-zero, zero-add}
use native.Mathlib.Omega.{arith}
use lib.Dec.{leb, ltb, leb-zero, leb-suc-zero, leb-suc-suc}
use lib.ListN.{length, take, drop, length-append, take-append-drop}
use lib.Seq.{sets, sets-eq, length-sets, take_at, length-take-le}
use borrow.Author.Tests.{lt-ltb, le-ltb}
use Rattle.std.specs.Prelude.{Result, Ok, Err}
use Rattle.cper_sections.specs.Sections.{section_numbers, row_of, section_rows, listed_in}
use Rattle.cper_sections.specs.declared.Refusal.{Refusal}
use Rattle.cper_sections.specs.declared.Refusal.TheVariants.{SectionsFull}
use Rattle.cper_sections.specs.declared.kept.Section.{Section}
use Rattle.cper_fields.proofs.Lists.{drop_past}

-- a section's row written
abbrev pub with_row : List ℕ → ℕ → Section → List ℕ
with_row table rows k = sets table (section_numbers * rows) (row_of k)

-- how many rows are written, which are all or as many as there is room for
abbrev pub ends : Bool → ℕ → Result ℕ Refusal
ends all rows = cond all (Ok rows) (Err (SectionsFull rows))

-- rows written from the row `rows` on
unfoldable pub fill : List ℕ → ℕ → List Section → List ℕ × Result ℕ Refusal
fill table rows [] = (table, Ok rows)
fill table rows (k ∷ ks) = cond (ltb rows (length table / section_numbers)) (fill (with_row table rows k) (rows + 1) ks) (table, Err (SectionsFull rows))

module _ (table : List ℕ) (rows : ℕ) (k : Section) (ks : List Section) where
  -- a row is free
  pub fill_row : {next : List ℕ} → rows < length table / section_numbers → next ≡ with_row table rows k → fill next (rows + 1) ks ≡ fill table rows (k ∷ ks)
  unfolding fill
  fill_row h e = rw (lt-ltb rows (length table / section_numbers) h) (ap (λ (t : List ℕ). fill t (rows + 1) ks) e)

  -- none is
  pub fill_full : length table / section_numbers ≤ rows → (table, Err (SectionsFull rows)) ≡ fill table rows (k ∷ ks)
  unfolding fill
  fill_full h = rw (le-ltb rows (length table / section_numbers) h)

-- what stands in a table: its first rows, those of some sections, its other numbers
stands : List ℕ → ℕ → List Section → List ℕ
stands table rows ks = take (section_numbers * rows) table ++ section_rows ks ++ drop (section_numbers * (rows + length ks)) table

stands_none : (table : List ℕ) (rows : ℕ) → table ≡ stands table rows []
unfolding stands section_rows
stands_none table rows =
    sym (ap (λ (k : ℕ). take (section_numbers * rows) table ++ [] ++ drop (section_numbers * k) table) (add-zero rows)
    ∙ ap (λ (l : List ℕ). l ++ drop (section_numbers * rows) table) (append-nil (take (section_numbers * rows) table))
    ∙ take-append-drop (section_numbers * rows) table)

stands_row : (table : List ℕ) (rows : ℕ) (k : Section) (ks : List Section) → rows < length table / section_numbers → stands (with_row table rows k) (rows + 1) ks ≡ stands table rows (k ∷ ks)
unfolding stands section_rows
stands_row table rows k ks h =
    let row = row_of k in
    let front = take (section_numbers * rows) table ++ row in
    let next : section_numbers * (rows + 1) ≡ section_numbers * rows + section_numbers = omega arith in
    let e : with_row table rows k ≡ front ++ drop (section_numbers * rows + section_numbers) table = sets-eq row table (section_numbers * rows) (omega arith) in
    let size : length front ≡ section_numbers * rows + section_numbers = simp length-append (omega (arith, length-take-le (section_numbers * rows) table (omega arith))) in
    let rest : section_numbers * (rows + 1 + length ks) ≡ section_numbers * (rows + suc (length ks)) = omega arith in
    ap₂ (λ (a b : List ℕ). a ++ section_rows ks ++ b)
    (ap₂ (λ (n : ℕ) (l : List ℕ). take n l) next e ∙ take_at front (drop (section_numbers * rows + section_numbers) table) (section_numbers * rows + section_numbers) size)
    (ap₂ (λ (n : ℕ) (l : List ℕ). drop n l) rest e
    ∙ drop_past front table (section_numbers * rows + section_numbers) (section_numbers * (rows + suc (length ks))) size (omega arith))
    ∙ ap (λ (a : List ℕ). a ++ drop (section_numbers * (rows + suc (length ks))) table) (append_assoc (take (section_numbers * rows) table) row (section_rows ks))

fill_from : (ks : List Section) (free rows : ℕ) (table : List ℕ) → rows + free ≡ length table / section_numbers
    → fill table rows ks ≡ (stands table rows (take free ks), ends (leb (length ks) free) (rows + length (take free ks)))
unfolding fill
fill_from [] zero rows table e = ap₂ (λ (t : List ℕ) (r : ℕ). (t, ends true r)) (stands_none table rows) (sym (add-zero rows))
fill_from [] (suc free) rows table e =
    rw (leb-zero (suc free))
    (ap₂ (λ (t : List ℕ) (r : ℕ). (t, ends true r)) (stands_none table rows) (sym (add-zero rows)))
fill_from (k ∷ ks) zero rows table e =
    rw (le-ltb rows (length table / section_numbers) (omega arith), leb-suc-zero (length ks))
    (ap₂ (λ (t : List ℕ) (r : ℕ). (t, ends false r)) (stands_none table rows) (sym (add-zero rows)))
fill_from (k ∷ ks) (suc free) rows table e =
    let same = length-sets table (section_numbers * rows) (row_of k) in
    let room : rows + 1 + free ≡ length (with_row table rows k) / section_numbers = rw same (omega arith) in
    let count : rows + 1 + length (take free ks) ≡ rows + suc (length (take free ks)) = omega arith in
    rw (lt-ltb rows (length table / section_numbers) (omega arith), leb-suc-suc (length ks) free)
    (fill_from ks free (rows + 1) (with_row table rows k) room
    ∙ ap₂ (λ (t : List ℕ) (r : ℕ). (t, ends (leb (length ks) free) r))
    (stands_row table rows k (take free ks) (omega arith)) count)

-- from the table's start
pub fill_listed : (table : List ℕ) (ks : List Section) → fill table 0 ks ≡ listed_in table ks
unfolding listed_in stands
fill_listed table ks =
    fill_from ks (length table / section_numbers) 0 table (zero-add (length table / section_numbers))
    ∙ rw (zero-add (length (take (length table / section_numbers) ks)))
