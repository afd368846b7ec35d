-- What the calls on a CPER answer, by document 01's numbers, and the checks that come first.
use Rattle.std.specs.Prelude.{ℕ, List, cond, ltb, length, Result, Ok, Err}
use Rattle.answers.specs.Numbers.{done, too_long, not_cper, sections_full, output_short, none, most_bytes}
use Rattle.cper_header.specs.Record.{is_cper}
use Rattle.cper_sections.specs.declared.Refusal.{Refusal}
use Rattle.cper_sections.specs.declared.Refusal.TheVariants.{TooLong, NotCper, SectionsFull, OutputShort, NoSection}

abbrev pub number_of : {A : Type 0} → Result A Refusal → ℕ
number_of (Ok _) = done
number_of (Err TooLong) = too_long
number_of (Err NotCper) = not_cper
number_of (Err (SectionsFull rows)) = sections_full
number_of (Err OutputShort) = output_short
number_of (Err NoSection) = none

-- the checks in their order
unfoldable pub check_of : List ℕ → Result (Unit {0}) Refusal
check_of cper = cond (ltb most_bytes (length cper)) (Err TooLong) (cond (is_cper cper) (Ok tt) (Err NotCper))

-- the work where a check passes; what fails it is refused
abbrev pub after : {A : Type 0} → Result (Unit {0}) Refusal → (Refusal → A) → A → A
after (Ok _) refused work = work
after (Err refusal) refused work = refused refusal

abbrev pub checked : {A : Type 0} → List ℕ → (Refusal → A) → A → A
checked cper = after (check_of cper)
