-- What encode gives for a header that it takes, where there is room: the header's bytes over the output.
-- By the tests of the definition. Assumes nothing.
use mathlib.Core.Path.{◌≡◌}
use mathlib.Core.Bool.{true}
use mathlib.Core.List.{List, ◌++◌}
use Prim.Native.Nat.{ℕ, ◌≤◌}
use lib.ListN.{length, drop}
use borrow.Author.Tests.{le-leb}
use Rattle.rules.specs.Rules.{valid_of}
use Rattle.header.specs.Access.{header_size}
use Rattle.header.specs.declared.Header.{Header}
use Rattle.header_write.specs.Values.{header_bytes}
use Rattle.header_encode.specs.Encode.{encodable, encoded_of}
use Rattle.std.specs.Prelude.{Ok}

pub encoded_is : (rules : List ℕ) → valid_of rules ≡ true → (h : Header) → encodable rules h ≡ true → (out : List ℕ) → header_size h.header_type ≤ length out
    → encoded_of rules h out ≡ (header_bytes h ++ drop (header_size h.header_type) out, Ok (header_size h.header_type))
unfolding encoded_of
encoded_is rules valid h can out room = rw (valid, can, le-leb (header_size h.header_type) (length out) room)
