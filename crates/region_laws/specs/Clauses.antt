-- `whole` in document 02's words (C-14): four clauses, over the answer, the rows in the table, the regions walked and the Boxes among the rows.
use Rattle.std.specs.Prelude.{ℕ, ◌<◌, ◌≡◌, List, [], ◌∷◌, true, ◌⊎◌}
use Rattle.header_judge.specs.Head.{is_box}
use Rattle.region_rows.specs.declared.Span.{Span}
use Rattle.region_rows.specs.Rows.{spans_in}
use Rattle.region_try.specs.Stops.{stop_of}
use Rattle.region_try.specs.Tries.{deepest}
use Rattle.region_try.specs.declared.stop.Stop.{Stop}
use Rattle.region_try.specs.declared.stop.Stop.TheVariants.{EndOfInput, ZeroWord, DeadbeefWord}
use Rattle.region.specs.Listing.{number_of}
use Rattle.region.specs.declared.Listing.{Listing}
use Rattle.region_laws.specs.Nested.{gathered}
use Rattle.region_laws.specs.Reach.{standing_last}
use Rattle.region_laws.specs.Whole.{all_rows}

-- ---- what the clauses speak of

-- something holds of each in a list
unfoldable pub Every : {A : Type 0} → (A → Type 0) → List A → Type 0
Every P [] = Unit {0}
Every P (x ∷ xs) = P x × Every P xs

-- the rows that a listing leaves in its table
abbrev pub rows_of : List ℕ × Listing → List Span
rows_of end = spans_in end.0 end.1.rows

-- the regions walked where nothing is cut off: the whole input, and what each opened Box holds after its header
abbrev pub regions_walked : List ℕ → List ℕ → List (List ℕ)
regions_walked rules bytes = gathered rules (λ region. region ∷ []) (λ at. []) 0 bytes

-- ---- the clauses

-- the answer is 0
abbrev pub Answered : List ℕ × Listing → Type 0
Answered end = number_of end.1.answer ≡ 0

-- a row holds no less than it declares
abbrev pub Held : Span → Type 0
Held r = r.held < r.declared → ⊥

-- a region stopped at its input's end, or at a zero or 0xdeadbeef word
abbrev pub Clean : Stop → Type 0
Clean stop = (stop ≡ EndOfInput) ⊎ ((stop ≡ ZeroWord) ⊎ (stop ≡ DeadbeefWord))

abbrev pub StoppedClean : List ℕ → List ℕ → Type 0
StoppedClean rules region = Clean (stop_of (standing_last rules region))

-- a row is no Box below level 4 that was left unopened because its header exceeds its held bytes
abbrev pub Opened : Span → Type 0
Opened r = is_box r.word r.flags ≡ true → r.level < deepest → r.held < r.size → ⊥

-- all four
pub record IsWhole (rules bytes : List ℕ) (end : List ℕ × Listing) : Type 0 where
  pub answered : Answered end
  pub held : Every Held (rows_of end)
  pub stopped : Every (StoppedClean rules) (regions_walked rules bytes)
  pub opened : Every Opened (rows_of end)

-- the last three of a region by itself, over all that its walk finds
pub record KeepsWhole (rules bytes : List ℕ) : Type 0 where
  pub held : Every Held (all_rows rules bytes)
  pub stopped : Every (StoppedClean rules) (regions_walked rules bytes)
  pub opened : Every Opened (all_rows rules bytes)
