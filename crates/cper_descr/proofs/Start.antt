-- The numbers that a descriptor starts with, laid out at the start of some bytes.
-- By the length of their bytes. Assumes nothing.
use mathlib.Core.Path.{◌≡◌, refl, ◌∙◌}
use mathlib.Core.List.{List, ◌++◌}
use Prim.Native.Nat.{ℕ, ◌≤◌}
use lib.ListN.{length, drop}
use Rattle.layout.specs.Fields.{digits}
use Rattle.cper_fields.proofs.Laid.{Laid}
use Rattle.cper_descr.specs.Descriptor.{descriptor_size, start_size, start_bytes}

pub length_start : (offset size revision bits flags : ℕ) → length (start_bytes offset size revision bits flags) ≡ start_size
unfolding digits
length_start offset size revision bits flags = refl

abbrev pub laid_start : (base : List ℕ) → descriptor_size ≤ length base → (offset : ℕ) {size size' revision revision' bits bits' flags flags' : ℕ} {next : List ℕ}
    → next ≡ start_bytes offset size' revision' bits' flags' ++ drop start_size base → size' ≡ size → revision' ≡ revision → bits' ≡ bits → flags' ≡ flags
    → Laid descriptor_size start_size next
laid_start base h offset {size} {size'} {revision} {revision'} {bits} {bits'} {flags} {flags'} e s r b f =
    record {
      base = base;
      front = start_bytes offset size revision bits flags;
      room = h;
      is = e ∙ rw (s, r, b, f);
      long = length_start offset size revision bits flags;
    }
