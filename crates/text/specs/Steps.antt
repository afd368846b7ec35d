-- What the inner functions give: a text put into a page.
use Rattle.std.specs.Prelude.{ℕ, ◌+◌, ◌*◌, ◌≤◌, ◌≡◌, List, length}
use Rattle.std.proofs.lemmas.List.Edits.{sets}
use Rattle.text.specs.declared.page.Page.{Page}

-- the buffer has room for so many bytes more
abbrev pub HasRoom : Page → ℕ → Type 0
HasRoom page most = page.end + most ≤ length page.out.now

-- the same buffer, with the text put after what was there, and else as it was; the text has at most so many bytes
pub record Puts (before : Page) (text : List ℕ) (most : ℕ) (after : Page) : Type 0 where
  pub bytes : after.out.now ≡ sets before.out.now before.end text
  pub ends : after.end ≡ before.end + length text
  pub few : after.end ≤ before.end + most
  pub length_kept : length after.out.now ≡ length before.out.now
  pub same_reference : before.out.ghost_name ≡ after.out.ghost_name

-- ---- the most bytes

-- of a number of 64 bits in decimal
abbrev pub most_digits : ℕ
most_digits = 20

-- of a number of 32 bits and the space after it
abbrev pub most_column : ℕ
most_column = 11

-- of the heading, of a row's line and of the last line
abbrev pub most_heading : ℕ
most_heading = 58

abbrev pub most_line : ℕ
most_line = 103

abbrev pub most_last : ℕ
most_last = 91

-- of a text with so many rows
abbrev pub most_text : ℕ → ℕ
most_text rows = most_heading + rows * most_line + most_last
