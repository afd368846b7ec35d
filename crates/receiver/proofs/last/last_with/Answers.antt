-- `last_with` gives the listing at the end of the bytes.
-- The kept bytes tell the header of all that is held. Assumes nothing.
use mathlib.Core.Path.{◌≡◌, sym, ap, ◌∙◌}
use mathlib.Core.Bool.{true}
use mathlib.Core.List.{List}
use Prim.Native.Nat.{ℕ, min}
use native.Mathlib.Omega.{arith}
use lib.ListN.{length, take}
use Rattle.header_judge.specs.Version.{word_of}
use Rattle.header_judge.specs.Head.{head_with, head_of}
use Rattle.header_judge.proofs.Heads.{head_known}
use Rattle.header_judge.specs.Steps.{Known}
use Rattle.receiver.specs.Lookups.{rules_of}
use Rattle.receiver.specs.Calls.{most_kept, held_in, waiting_of, usable}
use Rattle.receiver.specs.Steps.{bytes_in}
use Rattle.receiver.specs.declared.State.{State}
use Rattle.receiver.proofs.Kept.{kept_front}
use Rattle.receiver.proofs.Moves.{held_length, held_head}
use Rattle.receiver.proofs.Bounds.{InRange, bounds_range, usable_bounds, usable_waits}
use Rattle.receiver.proofs.Ends.{last_none, last_one}
use Rattle.receiver.proofs.last.last_with.Goals as goal

ranges : (state : State) (columns kept : List ℕ) → usable state columns kept ≡ true → InRange state
ranges state columns kept good = bounds_range state (usable_bounds state columns kept good)

-- the header that is judged is that of all bytes
here : (rules : List ℕ) (held len word flags : ℕ) (kept : List ℕ) → length kept ≡ most_kept → len ≡ min held most_kept → word ≡ word_of (take len kept) → Known rules word flags
    → head_with (take len kept) word flags ≡ head_of rules (take held kept)
here rules held len word flags kept long n w f =
    head_known rules (take len kept) word flags w f ∙ ap (head_of rules) (ap (λ (k : ℕ). take k kept) n ∙ kept_front held kept long)

pub overflow_cast-from : goal.overflow_cast-from
overflow_cast-from c =
    let q = ranges c.args.state c.args.lookup.rules.now c.args.kept.now c.requires.0 in
    let rows = q.rows in
    let offset = q.offset in
    let taken = q.taken in
    omega arith

pub held-held-requires : goal.held-held-requires
held-held-requires c = (ranges c.args.state c.args.lookup.rules.now c.args.kept.now c.requires.0).offset

pub returns-then-held-eq0 : goal.returns-then-held-eq0
returns-then-held-eq0 c =
    let a = c.args in
    let rules = rules_of a.lookup in
    let none = sym c.held-held.ensures ∙ c.if-held-eq0.true in
    rw c.listing_at.ensures
    (sym (last_none rules (waiting_of a.state a.kept.now) a.spans.now (held_length rules (held_in a.state) a.kept.now c.requires.2 ∙ none)))

pub at_head-requires : goal.at_head-requires
at_head-requires c =
    let a = c.args in
    let head = c.judge_with-head.ensures in
    let q = ranges a.state a.lookup.rules.now a.kept.now c.requires.0 in
    let is = here (rules_of a.lookup) c.held-held.result c.min.result c.word_of-word.result c.flags_of.result a.kept.now c.requires.2 c.min.ensures c.word_of-word.ensures c.flags_of.ensures in
    let rows = q.rows in
    let offset = q.offset in
    let taken = q.taken in
    let room = c.requires.3 in (
      head.head_bounds,
      ap (bytes_in c.held-held.result) (head.value ∙ is) ∙ rw (c.held-held.ensures, c.requires.1) (usable_waits a.state a.lookup.rules.now a.kept.now c.requires.2 c.requires.0),
      omega arith,
      omega arith,
      omega arith,
    )

pub returns : goal.returns
returns c =
    let a = c.args in
    let rules = rules_of a.lookup in
    let kept = a.kept.now in
    let held = held_in a.state in
    let is = here rules c.held-held.result c.min.result c.word_of-word.result c.flags_of.result kept c.requires.2 c.min.ensures c.word_of-word.ensures c.flags_of.ensures in
    let counted = held_length rules held kept c.requires.2 in
    let head = held_head rules held kept c.requires.2 in
    let waits = usable_waits a.state a.lookup.rules.now kept c.requires.2 c.requires.0 in
    let holds = c.held-held.ensures in
    let room = c.requires.3 in
    let ends =
    last_one rules (waiting_of a.state kept) a.spans.now (rw counted (omega arith))
    (rw (counted, head, c.requires.1) waits) (omega arith) in
    c.at_head.ensures ∙ rw (c.judge_with-head.ensures.value, is, holds) (sym (rw (counted, head) at ends))
