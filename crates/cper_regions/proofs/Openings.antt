-- A section that is opened has a whole header, and its region is a part of the file.
-- By the tests, and by what follows some bytes of a part. Assumes nothing.
use mathlib.Core.Path.{◌≡◌, ap, sym, ◌∙◌}
use mathlib.Core.List.{List}
use mathlib.Core.Bool.{true}
use Prim.Native.Nat.{ℕ, ◌+◌, ◌-◌, ◌≤◌}
use native.Mathlib.Omega.{arith}
use lib.Dec.{leb}
use lib.ListN.{take, drop}
use lib.Seq.{drop-drop}
use borrow.Author.Tests.{leb-true}
use Rattle.basics.proofs.Bools.{both}
use Rattle.basics.proofs.Parts.{drop-take}
use Rattle.cper_header.specs.Record.{starts_with}
use Rattle.cper_sections.specs.Sections.{body_of}
use Rattle.cper_sections.specs.declared.kept.Section.{Section}
use Rattle.cper_regions.specs.Regions.{section_header, identifier_at, is_firmware_error, is_identified, is_opened, region_of}

pub opened_long : (cper id : List ℕ) (k : Section) → is_opened cper id k ≡ true → section_header ≤ k.size
opened_long cper id k e =
    let identified = (both (is_firmware_error cper k) (is_identified cper id k) e).1 in
    leb-true section_header k.size (both (leb section_header k.size) (starts_with id (drop identifier_at (body_of cper k))) identified).0

-- its region as code lends it
pub region_part : (cper : List ℕ) (k : Section) → section_header ≤ k.size
    → take (k.offset + k.size - (k.offset + section_header)) (drop (k.offset + section_header) cper) ≡ (region_of cper k).bytes
region_part cper k h =
    let size : k.offset + k.size - (k.offset + section_header) ≡ k.size - section_header = omega arith in
    rw size (sym (drop-take section_header k.size (drop k.offset cper) ∙ ap (take (k.size - section_header)) (drop-drop section_header k.offset cper)))
