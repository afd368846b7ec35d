-- The rules that a receiver looks words up in.
use Rattle.std.specs.Prelude.{ℕ, ◌*◌, ◌≡◌, List}
use Rattle.rules.specs.Columns.{rules_in}
use Rattle.receiver.specs.declared.lookup.Lookup.{Lookup}

abbrev pub rules_of : Lookup → List ℕ
rules_of l = rules_in l.rules.now (l.blocks * 8)

abbrev pub SameRules : Lookup → Lookup → Type 0
SameRules l m = (l.rules.now ≡ m.rules.now) × (l.blocks ≡ m.blocks)
