-- `after_held` gives what a piece leaves after bytes that are held.
-- The header of all stands in the bytes that are taken in; past its record the piece's own are walked, or all where it is small. Assumes nothing.
use mathlib.Core.Path.{◌≡◌, sym, ap, ap₂, ◌∙◌}
use mathlib.Core.List.{List, ◌++◌}
use Prim.Native.Nat.{ℕ, ◌+◌, ◌-◌, min}
use native.Mathlib.Omega.{arith}
use lib.ListN.{length, take, length-drop}
use Rattle.basics.proofs.Parts.{tail_part}
use Rattle.header_judge.specs.Head.{head_of, Head}
use Rattle.receiver.specs.Lookups.{rules_of}
use Rattle.receiver.specs.Calls.{most_kept, kept_of}
use Rattle.receiver.specs.Steps.{bytes_in, moved_of, came_bytes}
use Rattle.receiver.proofs.Passes.{put_moves}
use Rattle.receiver.proofs.Taken.{head_taken, taken_stays}
use Rattle.receiver.proofs.Moves.{came_length, held_kept, small_kept, record_then, none_then}
use Rattle.receiver.proofs.piece.after_held.Goals as goal

-- the header that is read where the piece is taken in is that of all that has come
here : {head : Head} (rules : List ℕ) (held : ℕ) (kept piece : List ℕ) → length kept ≡ most_kept → (len : ℕ) (taken : List ℕ)
    → head ≡ head_of rules (take len taken) → len ≡ min (held + length piece) most_kept → taken ≡ kept_of (came_bytes held kept piece) kept
    → head ≡ head_of rules (came_bytes held kept piece)
here rules held kept piece long len taken h n t =
    h
    ∙ ap (λ (bs : List ℕ). head_of rules (take len bs)) t
    ∙ head_taken rules (came_bytes held kept piece) kept len (n ∙ ap (λ (k : ℕ). min k most_kept) (sym (came_length rules held kept piece long)))

pub returns-then-declared-eq0 : goal.returns-then-declared-eq0
returns-then-declared-eq0 c =
    let a = c.args in
    let long = c.requires.lengths.1 in
    let taken = c.take_in-len in
    let read = c.read-front in
    let head = here (rules_of a.lookup) a.held a.kept.now a.piece.now long taken.result taken.new.kept read.ensures.0 taken.ensures.count taken.ensures.kept_after in
    let none = ap (bytes_in (a.held + length a.piece.now)) (sym head) ∙ sym c.bytes_in-declared.ensures.0 ∙ c.if-declared-eq0.true in
    rw taken.ensures.kept_after (none_then (rules_of a.lookup) a.held a.kept.now a.piece.now long a.moved.now a.spans.now none)

pub walk_joined-requires-clause-lengths : goal.walk_joined-requires-clause-lengths
walk_joined-requires-clause-lengths c =
    let a = c.args in
    let long = c.requires.lengths.1 in
    let taken = c.take_in-len in
    let read = c.read-front in
    let head = here (rules_of a.lookup) a.held a.kept.now a.piece.now long taken.result taken.new.kept read.ensures.0 taken.ensures.count taken.ensures.kept_after in
    let are = c.bytes_in-declared.ensures.0 ∙ ap (bytes_in (a.held + length a.piece.now)) head in
    let few = small_kept (rules_of a.lookup) a.held a.kept.now a.piece.now long c.bytes_in-declared.result _ (omega arith) are c.requires.waits (omega arith) in
    (few, c.requires.lengths.0, taken.auto.kept ∙ long)

pub returns-then-declared-held : goal.returns-then-declared-held
returns-then-declared-held c =
    let a = c.args in
    let long = c.requires.lengths.1 in
    let taken = c.take_in-len in
    let read = c.read-front in
    let head = here (rules_of a.lookup) a.held a.kept.now a.piece.now long taken.result taken.new.kept read.ensures.0 taken.ensures.count taken.ensures.kept_after in
    let are = c.bytes_in-declared.ensures.0 ∙ ap (bytes_in (a.held + length a.piece.now)) head in
    let few = small_kept (rules_of a.lookup) a.held a.kept.now a.piece.now long c.bytes_in-declared.result _ (omega arith) are c.requires.waits (omega arith) in
    let all : take a.held taken.new.kept ++ a.piece.now ≡ came_bytes a.held a.kept.now a.piece.now =
    ap (λ (bs : List ℕ). take a.held bs ++ a.piece.now) taken.ensures.kept_after
    ∙ ap (λ (bs : List ℕ). bs ++ a.piece.now) (taken_stays a.held a.kept.now a.piece.now long few)
    ∙ sym (held_kept (rules_of a.lookup) a.held a.kept.now a.piece.now long few) in
    c.walk_joined.ensures
    ∙ rw (read.ensures.1.0, read.ensures.1.1)
    (ap₂ (λ (bs ks : List ℕ). moved_of (rules_of a.lookup) bs a.moved.now ks a.spans.now) all taken.ensures.kept_after)

pub walk_on-requires : goal.walk_on-requires
walk_on-requires c =
    let a = c.args in
    let long = c.requires.lengths.1 in
    let moves = put_moves (a.held + length a.piece.now) _ a.moved.now a.spans.now c.bytes_in-declared.result (omega arith) c.bytes_in-declared.ensures.0 c.put.new.spans c.put.new.moved c.put.ensures in
    let all = c.take_in-len.auto.kept in
    let same = c.put.auto.spans in
    simp (tail_part, length-drop) (omega arith)

pub returns : goal.returns
returns c =
    let a = c.args in
    let long = c.requires.lengths.1 in
    let taken = c.take_in-len in
    let read = c.read-front in
    let declared = c.bytes_in-declared in
    let put = c.put in
    let rules = rules_of a.lookup in
    let head = here (rules_of a.lookup) a.held a.kept.now a.piece.now long taken.result taken.new.kept read.ensures.0 taken.ensures.count taken.ensures.kept_after in
    let are = declared.ensures.0 ∙ ap (bytes_in (a.held + length a.piece.now)) head in
    c.walk_on.ensures
    ∙ rw (read.ensures.1.0, read.ensures.1.1)
    (record_then rules a.held a.kept.now a.piece.now long a.moved.now a.spans.now declared.result (omega arith) are c.if-declared-held.false
    taken.new.kept _ put.new.spans put.new.moved (tail_part a.piece.now (declared.result - a.held)) (rw head at put.ensures))
    ∙ ap (λ (ks : List ℕ). moved_of rules (came_bytes a.held a.kept.now a.piece.now) a.moved.now ks a.spans.now) taken.ensures.kept_after
