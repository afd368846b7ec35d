-- What a receiver tells over some calls, and the level-0 part of a listing (document 02, C-11).
use Rattle.std.specs.Prelude.{ℕ, ◌≤◌, ◌<◌, ◌≡◌, List, [], ◌∷◌, ◌++◌, Bool, true, cond, ◌||◌, eqb, length, get_or}
use Rattle.answers.specs.Numbers.{bad_piece, not_receiving, most_bytes}
use Rattle.rules.specs.Rules.{valid_of}
use Rattle.header_judge.specs.Version.{bit}
use Rattle.region_rows.specs.declared.Span.{Span}
use Rattle.region_rows.specs.Rows.{capacity, spans_in}
use Rattle.region_try.specs.Stops.{stop_number}
use Rattle.region_try.specs.Tries.{Try, none, hit, rows_found, stands_at, all_tries}
use Rattle.region_try.specs.declared.Cut.TheVariants.{Going}
use Rattle.region.specs.Listing.{number_of, type_of, tries_listing}
use Rattle.region.specs.declared.Listing.{Listing}
use Rattle.receiver.specs.Calls.{most_piece, least_room, started_out, fed_out, finished_out}
use Rattle.receiver.specs.declared.Receiver.{Receiver}

-- what is told of a region: rows, and numbers
pub record Told : Type 0 where
  pub rows : List Span
  pub tries : ℕ
  pub bad_type : ℕ
  pub whole : ℕ
  pub stop : ℕ
  pub answer : ℕ

-- ---- the level-0 part of a listing

abbrev pub level_of : Try → ℕ
level_of (none level offset head) = level
level_of (hit r) = r.level

-- the tries at level 0
unfoldable pub level_zero : List Try → List Try
level_zero [] = []
level_zero (v ∷ vs) = cond (eqb (level_of v) 0) (v ∷ level_zero vs) (level_zero vs)

-- the listing of some tries where nothing cuts them off
abbrev pub listing_by : List Try → Listing
listing_by vs = tries_listing (stands_at 0 vs) vs (record { rows = rows_found vs; tries = length vs; cut = Going })

-- what is told of some tries
abbrev pub told_by : List Try → Told
told_by vs =
    let listing = listing_by vs in
    record {
      rows = rows_found vs;
      tries = listing.tries;
      bad_type = type_of listing.answer;
      whole = bit listing.whole;
      stop = stop_number listing.stop;
      answer = number_of listing.answer;
    }

-- and of the level-0 part of the listing of some bytes
abbrev pub level_zero_part : List ℕ → List ℕ → Told
level_zero_part rules bytes = told_by (level_zero (all_tries rules bytes))

-- ---- the calls on a receiver

-- a feed: its piece, and the table that is lent to it
pub record Call : Type 0 where
  pub piece : List ℕ
  pub table : List ℕ

-- the receiver, the table, its rows and the answer after a call
abbrev pub called : Receiver → Call → Receiver × List ℕ × ℕ × ℕ
called r c = fed_out r c.piece c.table

-- the bytes of some calls
unfoldable pub bytes_of : List Call → List ℕ
bytes_of [] = []
bytes_of (c ∷ cs) = c.piece ++ bytes_of cs

-- the receiver after them
unfoldable pub after_calls : Receiver → List Call → Receiver
after_calls r [] = r
after_calls r (c ∷ cs) = after_calls (called r c).0 cs

-- the rows that are read off their tables
unfoldable pub rows_seen : Receiver → List Call → List Span
rows_seen r [] = []
rows_seen r (c ∷ cs) = spans_in (called r c).1 (called r c).2 ++ rows_seen (called r c).0 cs

-- their answers
unfoldable pub answers_seen : Receiver → List Call → List ℕ
answers_seen r [] = []
answers_seen r (c ∷ cs) = (called r c).3 ∷ answers_seen (called r c).0 cs

-- what some calls and a finish with the last table tell
abbrev pub told_from : Receiver → List Call → List ℕ → Told
told_from r cs last =
    let out = finished_out (after_calls r cs) last in
    record {
      rows = rows_seen r cs ++ spans_in out.1 (get_or out.2 0 0);
      tries = get_or out.2 1 0;
      bad_type = get_or out.2 2 0;
      whole = get_or out.2 3 0;
      stop = get_or out.2 4 0;
      answer = out.3;
    }

-- from the start of a receiver, whatever it was before
abbrev pub received : Receiver → List ℕ → List Call → List ℕ → Told
received before rules cs last = told_from (started_out before rules).0 cs last

-- ---- calls that are not refused

-- each is a byte
abbrev pub Bytes : List ℕ → Type 0
Bytes bs = (k : ℕ) → get_or bs k 0 < 256

-- a piece is short, and a table has room
pub record Fits (c : Call) : Type 0 where
  pub few : length c.piece ≤ most_piece
  pub room : least_room ≤ capacity c.table

unfoldable pub AllFit : List Call → Type 0
AllFit [] = Unit {0}
AllFit (c ∷ cs) = Fits c × AllFit cs

-- with a valid rule table, no more bytes than the limit, and room at the end
pub record Proper (rules : List ℕ) (cs : List Call) (last : List ℕ) : Type 0 where
  pub valid : valid_of rules ≡ true
  pub fit : AllFit cs
  pub bytes : Bytes (bytes_of cs)
  pub short : length (bytes_of cs) ≤ most_bytes
  pub room : least_room ≤ capacity last

-- ---- calls that are

-- is an answer 12 or 13?
abbrev pub refuses : ℕ → Bool
refuses answer = eqb answer bad_piece || eqb answer not_receiving

-- is a call answered so?
abbrev pub refused : Receiver → Call → Bool
refused r c = refuses (called r c).3

-- some calls without those that are
unfoldable pub without_refused : Receiver → List Call → List Call
without_refused r [] = []
without_refused r (c ∷ cs) = cond (refused r c) (without_refused r cs) (c ∷ without_refused (called r c).0 cs)
