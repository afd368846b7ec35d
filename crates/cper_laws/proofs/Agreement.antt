-- The section table, the call on one section and the normal form agree on what is kept.
-- Each is a function of the same list; by induction over it. Assumes nothing.
use mathlib.Core.Path.{◌≡◌, refl, sym, ap, ◌∙◌}
use mathlib.Core.List.{List, [], ◌∷◌, ◌++◌}
use mathlib.Core.Bool.{true}
use Prim.Native.Nat.{ℕ, zero, suc, ◌+◌, ◌*◌, ◌/◌, ◌≤◌, ◌<◌}
use native.Mathlib.Omega.{arith}
use lib.ListN.{length, get_or, drop}
use lib.Seq.{take_all}
use Rattle.std.specs.Prelude.{Result, Ok, Err}
use Rattle.cper_header.specs.Record.{is_cper}
use Rattle.answers.specs.Numbers.{most_bytes}
use Rattle.cper_sections.specs.Sections.{kept_of, section_numbers, section_rows, listed_in, sections_of, place_in, place_of, part_at}
use Rattle.cper_sections.specs.declared.kept.Section.{Section}
use Rattle.cper_sections.specs.declared.Place.{Place}
use Rattle.cper_sections.specs.declared.Refusal.{Refusal}
use Rattle.cper_normal.specs.Normal.{size_of, normal_of, most_output}
use Rattle.cper_sections.proofs.Checked.{header_whole, a_cper}
use Rattle.cper_laws.specs.Again.{body_list}
use Rattle.cper_laws.proofs.KeptAgain.{normal_is_cper, same_bodies}

-- ---- the table and one section

-- what a row of a table tells of its section
abbrev pub row_place : List ℕ → ℕ → Result Place Refusal
row_place table row = Ok (record { offset = get_or table (section_numbers * row + 1) 0; length = get_or table (section_numbers * row + 2) 0 })

row_place_lem : (ks : List Section) (rest : List ℕ) (row : ℕ) → row < length ks → place_in ks row ≡ row_place (section_rows ks ++ rest) row
unfolding place_in section_rows
row_place_lem [] rest row h = absurd (omega arith)
row_place_lem (k ∷ ks) rest zero h = refl
row_place_lem (k ∷ ks) rest (suc row) h =
    let offset : section_numbers * suc row + 1 ≡ suc (suc (suc (section_numbers * row + 1))) = omega arith in
    let size : section_numbers * suc row + 2 ≡ suc (suc (suc (section_numbers * row + 2))) = omega arith in
    rw (offset, size) (row_place_lem ks rest row (omega arith))

module _ (cper : List ℕ) (short : length cper ≤ most_bytes) (is : is_cper cper ≡ true) where
  place_is : (row : ℕ) → place_of cper row ≡ place_in (kept_of cper) row
  unfolding place_of
  place_is row = sym (a_cper cper Err (place_in (kept_of cper) row) short is)

  -- a row of a table with room for all is what the call on that section tells
  pub table_agrees : (table : List ℕ) (row : ℕ) → length (kept_of cper) ≤ length table / section_numbers → row < length (kept_of cper)
      → place_of cper row ≡ row_place (sections_of cper table).0 row
  unfolding sections_of listed_in
  table_agrees table row room h =
      let ks = kept_of cper in
      let all = take_all (length table / section_numbers) ks room in
      let after : (sections_of cper table).0 ≡ section_rows ks ++ drop (section_numbers * length ks) table =
      ap (λ (t : List ℕ × Result ℕ Refusal). t.0) (sym (a_cper cper (λ refusal. (table, Err refusal)) (listed_in table ks) short is))
      ∙ ap (λ (written : List Section). section_rows written ++ drop (section_numbers * length written) table) all in
      place_is row ∙ row_place_lem ks (drop (section_numbers * length ks) table) row h
      ∙ ap (λ (l : List ℕ). row_place l row) (sym after)

-- ---- one section and the normal form

row_body : (cper : List ℕ) (ks : List Section) (row : ℕ) → part_at cper (place_in ks row) ≡ get_or (body_list cper ks) row []
unfolding place_in body_list
row_body cper [] row = refl
row_body cper (k ∷ ks) zero = refl
row_body cper (k ∷ ks) (suc row) = row_body cper ks row

-- the call on one section gives the same part of the normal form as of the CPER, for every row number
pub section_agrees : (cper : List ℕ) → ((k : ℕ) → get_or cper k 0 < 256) → length cper ≤ most_bytes → is_cper cper ≡ true
    → size_of (kept_of cper) ≤ most_output → length (normal_of cper) ≤ most_bytes
    → (row : ℕ) → part_at (normal_of cper) (place_of (normal_of cper) row) ≡ part_at cper (place_of cper row)
section_agrees cper bytes short is small fits row =
    let new = normal_of cper in
    let whole = header_whole cper is in
    ap (part_at new) (place_is new fits (normal_is_cper cper bytes whole small) row)
    ∙ row_body new (kept_of new) row
    ∙ ap (λ (bodies : List (List ℕ)). get_or bodies row []) (same_bodies cper bytes whole small)
    ∙ sym (row_body cper (kept_of cper) row)
    ∙ ap (part_at cper) (sym (place_is cper short is row))
