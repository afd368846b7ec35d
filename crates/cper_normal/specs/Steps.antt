-- What the inner functions ask and give: the sections measured, one section written, all of them one after the other.
use Rattle.std.specs.Prelude.{ℕ, ◌+◌, ◌≤◌, ◌≡◌, List, [], ◌∷◌, length}
use Rattle.cper_fields.specs.Fields.{over}
use Rattle.cper_header.specs.Record.{header_size}
use Rattle.cper_descr.specs.Descriptor.{descriptor_size}
use Rattle.cper_sections.specs.Sections.{descriptor_at, kept_of, body_of}
use Rattle.cper_sections.specs.Steps.{Within}
use Rattle.cper_sections.specs.declared.kept.Section.{Section}
use Rattle.cper_normal.specs.Normal.{size_of, most_output, descriptor_for}
use Rattle.cper_normal.specs.declared.Extent.{Extent}

-- how many sections there are, and the length of a record made of them
pub record Measured (ks : List Section) (r : Extent) : Type 0 where
  pub kept : r.kept ≡ length ks
  pub size : r.size ≡ size_of ks

-- a section lies in the input, and there is room for it in the output
pub record Placed (cper : List ℕ) (k : Section) (out : List ℕ) (row to : ℕ) : Type 0 where
  pub section : Within cper k
  pub before : descriptor_at row + descriptor_size ≤ length out
  pub room : to + k.size ≤ length out
  pub small : to ≤ most_output

-- the output with a section written: its descriptor as the one of a row, its body at `to`
abbrev pub with_section : List ℕ → List ℕ → ℕ → ℕ → Section → List ℕ
with_section cper out row to k =
    over (over out (descriptor_at row) descriptor_size (descriptor_for cper k to)) to k.size (body_of cper k)

-- the output with some sections written from a row and an offset on
unfoldable pub pack : List ℕ → List ℕ → ℕ → ℕ → List Section → List ℕ
pack cper out row to [] = out
pack cper out row to (k ∷ ks) = pack cper (with_section cper out row to k) (row + 1) (to + k.size) ks

-- there is room for the kept sections
pub record RoomForKept (cper out : List ℕ) (kept : ℕ) : Type 0 where
  pub header : header_size ≤ length cper
  pub count : kept ≡ length (kept_of cper)
  pub room : size_of (kept_of cper) ≤ length out
  pub small : size_of (kept_of cper) ≤ most_output
