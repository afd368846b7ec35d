-- What a C caller gets of a CPER: the lent buffer, what is told, and the answer's number.
use Rattle.std.specs.Prelude.{ℕ, List, [], ◌∷◌, Result, Ok, Err}
use Rattle.std.specs.Result.{result_unwrap_or}
use Rattle.cper_sections.specs.Answers.{number_of}
use Rattle.cper_sections.specs.declared.Place.{Place}
use Rattle.cper_sections.specs.declared.Refusal.{Refusal}
use Rattle.cper_sections.specs.declared.Refusal.TheVariants.{SectionsFull}

-- how many rows are written
abbrev pub rows_in : Result ℕ Refusal → ℕ
rows_in (Ok rows) = rows
rows_in (Err (SectionsFull rows)) = rows
rows_in (Err _) = 0

-- the table, its rows
abbrev pub sections_out : List ℕ × Result ℕ Refusal → List ℕ × ℕ × ℕ
sections_out end = (end.0, rows_in end.1, number_of end.1)

-- a body's offset and length
abbrev pub told_in : Result Place Refusal → List ℕ
told_in (Ok place) = place.offset ∷ place.length ∷ []
told_in (Err _) = 0 ∷ 0 ∷ []

abbrev pub section_out : Result Place Refusal → List ℕ × ℕ
section_out found = (told_in found, number_of found)

-- the output, the bytes written
abbrev pub normalised_out : List ℕ × Result ℕ Refusal → List ℕ × ℕ × ℕ
normalised_out end = (end.0, result_unwrap_or end.1 0, number_of end.1)
