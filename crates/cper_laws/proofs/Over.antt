-- A normal form over 4,294,967,295 bytes is refused with 10, and nothing is written.
-- By the definition. Assumes nothing.
use mathlib.Core.Path.{◌≡◌, refl, sym, ◌∙◌}
use mathlib.Core.List.{List}
use mathlib.Core.Bool.{Bool, true, false, cond, ◌&&◌}
use Prim.Native.Nat.{ℕ, ◌≤◌, ◌<◌}
use lib.Dec.{leb}
use lib.ListN.{length}
use borrow.Author.Tests.{lt-leb}
use Rattle.std.specs.Prelude.{Err}
use Rattle.cper_header.specs.Record.{is_cper}
use Rattle.answers.specs.Numbers.{most_bytes}
use Rattle.cper_sections.specs.Sections.{kept_of}
use Rattle.cper_sections.specs.declared.Refusal.TheVariants.{OutputShort}
use Rattle.cper_normal.specs.Normal.{size_of, most_output, packed_in, normalised_of}
use Rattle.cper_sections.proofs.Checked.{a_cper}

neither_way : {A : Type 0} (t : Bool) (x y : A) → cond (t && false) x y ≡ y
neither_way true x y = refl
neither_way false x y = refl

pub over_refused : (cper out : List ℕ) → length cper ≤ most_bytes → is_cper cper ≡ true → most_output < size_of (kept_of cper) → normalised_of cper out ≡ (out, Err OutputShort)
unfolding normalised_of packed_in
over_refused cper out short is over =
    sym (a_cper cper (λ refusal. (out, Err refusal)) (packed_in cper out) short is)
    ∙ rw (lt-leb (size_of (kept_of cper)) most_output over) (neither_way (leb (size_of (kept_of cper)) (length out)) _ (out, Err OutputShort))
