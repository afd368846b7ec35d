-- `recall` gives the memory with a word, whose flags are known.
-- By what is remembered, by the sieve, or by a look at the table. Assumes nothing.
use Rattle.std.proofs.Common.{◌≡◌, ℕ, List, [], ◌∷◌, length, refl, sym, ◌∙◌, arith}
use borrow.Author.Tests.{eqb-true}
use Rattle.sieve.proofs.Free.{free_flags}
use Rattle.rules.specs.Rules.{rules_of, with_rules, flags_of}
use Rattle.region_flat.proofs.memory.Memory.recall.Goals as goal

-- without rules no word has flags
no_rules : (rules : List ℕ) (word : ℕ) → length rules ≡ 0 → 0 ≡ flags_of rules word
unfolding flags_of rules_of with_rules
no_rules [] word e = refl
no_rules (r ∷ rs) word e = absurd (omega arith)

pub returns-then-is_empty : goal.returns-then-is_empty
returns-then-is_empty c = rw c.without_flags.ensures ((λ n. no_rules c.args.rules.now c.args.word (eqb-true _ 0 (sym c.if-is_empty.ensures)), c.requires.1.1), refl)

pub returns-then-is_free : goal.returns-then-is_free
returns-then-is_free c =
    let a = c.args in
    rw c.without_flags-then-is_free.ensures
    ((λ n. free_flags a.rules.now a.sieve.now a.word c.requires.0 (sym c.is_free.ensures ∙ c.if-is_free.true), c.requires.1.1), refl)
