-- However a region is cut into pieces, a receiver tells the level-0 part of the region's listing.
-- Over the calls: after each the receiver stands after the bytes so far, and the rows seen are those that they settle. Assumes nothing.
use mathlib.Core.Path.{◌≡◌, refl, sym, ap, subst, ◌∙◌}
use mathlib.Core.List.{List, [], ◌∷◌, ◌++◌, append_assoc, append-nil}
use mathlib.Core.Bool.{true}
use mathlib.Core.Logic.{⊎_elim}
use Prim.Native.Nat.{ℕ, ◌≤◌, ◌<◌}
use native.Mathlib.Omega.{arith}
use lib.ListN.{length, get_or, replicate, length-append, get_or-append, get_or-eq_default}
use Rattle.answers.specs.Numbers.{done, most_bytes}
use Rattle.basics.proofs.Orders.{le_or_lt}
use Rattle.rules.specs.Rules.{valid_of}
use Rattle.region_rows.specs.declared.Span.{Span}
use Rattle.region_rows.specs.Rows.{capacity, spans_in}
use Rattle.region_rows.proofs.Rows.{spans_laid}
use Rattle.region_try.specs.Tries.{Try, rows_found}
use Rattle.region.specs.Listing.{number_of, listing_told}
use Rattle.region.specs.declared.Listing.{Listing}
use Rattle.receiver.specs.Arrived.{top_tries}
use Rattle.receiver.specs.Waiting.{unwalked, joined, settled, last_tries}
use Rattle.receiver.specs.Calls.{least_room, started, start_out, started_out, finished_out}
use Rattle.receiver.specs.declared.Receiver.{Receiver}
use Rattle.receiver.proofs.Arrived.{arrived_end}
use Rattle.receiver_laws.specs.Stands.{after, Stands}
use Rattle.receiver_laws.specs.Received.{told_by, listing_by, level_zero_part, Call, called, bytes_of, after_calls, rows_seen, answers_seen, told_from, received, without_refused, Bytes, Fits, AllFit, Proper}
use Rattle.receiver_laws.proofs.After.{settled_piece}
use Rattle.receiver_laws.proofs.Turns.{started_stands, fed_stands, fed_rows, fed_answer, finished_table, finished_told, finished_answer}
use Rattle.receiver_laws.proofs.Refusals.{refused_leave_no_trace, taken_fit}
use Rattle.receiver_laws.proofs.Levels.{level_zero_lem}
use Rattle.receiver_laws.proofs.Ends.{rows_told, end_rows, end_listing}

-- the first of some bytes are bytes
first_bytes : (bs more : List ℕ) → Bytes (bs ++ more) → Bytes bs
first_bytes bs more small k = ⊎_elim
    (λ (past : length bs ≤ k). rw (get_or-eq_default bs 0 past) (omega arith))
    (λ (there : k < length bs). rw (get_or-append bs more 0 k there) at (small k))
    (le_or_lt (length bs) k)

module _ (rules : List ℕ) (valid : valid_of rules ≡ true) where
  -- ---- some calls

  -- the rows that some bytes settle
  abbrev settles : List ℕ → List Span
  settles bytes = settled rules (unwalked bytes)

  -- a receiver that stood after some bytes, after calls: where it stands now, and what rows were seen
  record Served (bytes : List ℕ) (cs : List Call) (r : Receiver) : Type 0 where
    stands : Stands rules (bytes ++ bytes_of cs) (after_calls r cs)
    rows : settles bytes ++ rows_seen r cs ≡ settles (bytes ++ bytes_of cs)
    answers : answers_seen r cs ≡ replicate (length cs) done

  -- one call
  module _ (bytes : List ℕ) (c : Call) (r : Receiver) (stands : Stands rules bytes r) (fits : Fits c)
      (small : Bytes bytes) (short : length (bytes ++ c.piece) ≤ most_bytes) where
    call_stands : Stands rules (bytes ++ c.piece) (called r c).0
    call_stands = fed_stands rules bytes r stands valid small c.piece c.table fits.few fits.room short

    call_answer : (called r c).3 ≡ done
    call_answer = fed_answer rules bytes r stands valid small c.piece c.table fits.few fits.room short

    call_rows : settles bytes ++ spans_in (called r c).1 (called r c).2 ≡ settles (bytes ++ c.piece)
    call_rows =
        let new : List Span = settled rules (joined (after rules bytes) c.piece) in
        let fed = fed_rows rules bytes r stands valid small c.piece c.table fits.few fits.room short in
        let seen : spans_in (called r c).1 (called r c).2 ≡ new = rw (fed.0, fed.1) (spans_laid new c.table) in
        ap (λ (rs : List Span). settles bytes ++ rs) seen ∙ sym (settled_piece rules bytes c.piece)

  served : (bytes : List ℕ) (cs : List Call) (r : Receiver) → Stands rules bytes r → AllFit cs
      → Bytes (bytes ++ bytes_of cs) → length (bytes ++ bytes_of cs) ≤ most_bytes → Served bytes cs r
  unfolding bytes_of after_calls rows_seen answers_seen AllFit
  served bytes [] r stands fit small short =
      record { stands = rw (append-nil bytes) stands; rows = rw (append-nil bytes) (append-nil (settles bytes)); answers = refl }
  served bytes (c ∷ cs) r stands fit small short =
      let regroup = append_assoc bytes c.piece (bytes_of cs) in
      let some : Bytes bytes = first_bytes bytes (c.piece ++ bytes_of cs) small in
      let all : Bytes ((bytes ++ c.piece) ++ bytes_of cs) = subst Bytes (sym regroup) small in
      let long : length ((bytes ++ c.piece) ++ bytes_of cs) ≤ most_bytes = rw regroup short in
      let less : length (bytes ++ c.piece) ≤ most_bytes = omega (arith, length-append (bytes ++ c.piece) (bytes_of cs)) in
      let after = served (bytes ++ c.piece) cs (called r c).0 (call_stands bytes c r stands fit.0 some less) fit.1 all long in
      let seen : List Span = spans_in (called r c).1 (called r c).2 in
      let later : List Span = rows_seen (called r c).0 cs in
      record {
        stands = subst (λ (bs : List ℕ). Stands rules bs (after_calls (called r c).0 cs)) regroup after.stands;
        rows = sym (append_assoc (settles bytes) seen later)
            ∙ ap (λ (rs : List Span). rs ++ later) (call_rows bytes c r stands fit.0 some less)
            ∙ after.rows
            ∙ ap settles regroup;
        answers = rw (call_answer bytes c r stands fit.0 some less, after.answers);
      }

  -- ---- the end

  module _ (bytes : List ℕ) (r : Receiver) (stands : Stands rules bytes r) (small : Bytes bytes) (short : length bytes ≤ most_bytes)
      (t : List ℕ) (room : least_room ≤ capacity t) where
    -- the tries at level 0
    abbrev tries : List Try
    tries = top_tries rules bytes 0

    finish_told : (finished_out r t).2 ≡ listing_told (rows_told (length (rows_found (last_tries rules (after rules bytes)))) (listing_by tries))
    finish_told = finished_told rules bytes r stands valid small t room short ∙ ap (λ (l : Listing). listing_told l) (end_listing rules bytes)

    finish_rows : settles bytes ++ spans_in (finished_out r t).1 (get_or (finished_out r t).2 0 0) ≡ rows_found tries
    finish_rows = rw (finish_told, finished_table rules bytes r stands valid small t room short, spans_laid (rows_found (last_tries rules (after rules bytes))) t) (sym (end_rows rules bytes))

    finish_answer : (finished_out r t).3 ≡ number_of (listing_by tries).answer
    finish_answer = finished_answer rules bytes r stands valid small t room short ∙ ap (λ (l : Listing). number_of l.answer) (end_listing rules bytes)

  -- ---- from the start

  none_settled : settles [] ≡ []
  none_settled = arrived_end rules [] 0 (omega arith)

  start_served : (cs : List Call) (last : List ℕ) → Proper rules cs last → Served [] cs (started rules)
  start_served cs last proper = served [] cs (started rules) (started_stands rules) proper.fit proper.bytes proper.short

  start_told : (cs : List Call) (last : List ℕ) → Proper rules cs last → told_from (started rules) cs last ≡ told_by (top_tries rules (bytes_of cs) 0)
  start_told cs last proper =
      let bytes : List ℕ = bytes_of cs in
      let r : Receiver = after_calls (started rules) cs in
      let calls = start_served cs last proper in
      let seen : rows_seen (started rules) cs ≡ settles bytes = sym (ap (λ (rs : List Span). rs ++ rows_seen (started rules) cs) none_settled) ∙ calls.rows in
      let rows = ap (λ (rs : List Span). rs ++ spans_in (finished_out r last).1 (get_or (finished_out r last).2 0 0)) seen
      ∙ finish_rows bytes r calls.stands proper.bytes proper.short last proper.room in
      let told = finish_told bytes r calls.stands proper.bytes proper.short last proper.room in
      let answer = finish_answer bytes r calls.stands proper.bytes proper.short last proper.room in
      λ i. record {
        rows = rows i;
        tries = get_or (told i) 1 0;
        bad_type = get_or (told i) 2 0;
        whole = get_or (told i) 3 0;
        stop = get_or (told i) 4 0;
        answer = answer i;
      }

start_done : (before : Receiver) (rules : List ℕ) → valid_of rules ≡ true → (started_out before rules).0 ≡ started rules
unfolding start_out
start_done before rules valid = rw valid

pub received_listing : (before : Receiver) (rules : List ℕ) (cs : List Call) (last : List ℕ) → Proper rules cs last
    → received before rules cs last ≡ level_zero_part rules (bytes_of cs)
received_listing before rules cs last proper =
    ap (λ (r : Receiver). told_from r cs last) (start_done before rules proper.valid)
    ∙ start_told rules proper.valid cs last proper
    ∙ ap told_by (sym (level_zero_lem rules (bytes_of cs)))

-- no feed is refused
pub none_refused : (before : Receiver) (rules : List ℕ) (cs : List Call) (last : List ℕ) → Proper rules cs last
    → answers_seen (started_out before rules).0 cs ≡ replicate (length cs) done
none_refused before rules cs last proper =
    ap (λ (r : Receiver). answers_seen r cs) (start_done before rules proper.valid) ∙ (start_served rules proper.valid cs last proper).answers

-- two ways to cut a region tell the same of it
pub cutting_free : (before other : Receiver) (rules : List ℕ) (cs ds : List Call) (last end : List ℕ) → Proper rules cs last → Proper rules ds end
    → bytes_of cs ≡ bytes_of ds → received before rules cs last ≡ received other rules ds end
cutting_free before other rules cs ds last end p q e =
    received_listing before rules cs last p ∙ ap (level_zero_part rules) e ∙ sym (received_listing other rules ds end q)

-- any calls tell the level-0 part of the listing of the bytes that are taken: those of the calls that are not refused
module _ (before : Receiver) (rules : List ℕ) (cs : List Call) (last : List ℕ) (valid : valid_of rules ≡ true) (room : least_room ≤ capacity last) where
  abbrev taken : List Call
  taken = without_refused (started_out before rules).0 cs

  pub received_taken : Bytes (bytes_of taken) → length (bytes_of taken) ≤ most_bytes → received before rules cs last ≡ level_zero_part rules (bytes_of taken)
  received_taken small short =
      let r : Receiver = (started_out before rules).0 in
      let same = refused_leave_no_trace r cs in
      let proper : Proper rules taken last = record { valid = valid; fit = taken_fit r cs; bytes = small; short = short; room = room } in
      let leaves : received before rules cs last ≡ received before rules taken last = rw (same.0, same.1) in
      leaves ∙ received_listing before rules taken last proper
