-- The receiver's three calls (document 02, C-11) on the receiver as it is lent, refusals first.
use Rattle.std.specs.Prelude.{ℕ, ◌+◌, ◌-◌, ◌*◌, ◌/◌, List, ◌++◌, Bool, cond, ◌&&◌, ◌||◌, Result, Ok, Err, eqb, leb, ltb, length, take, drop, replicate}
use Rattle.answers.specs.Numbers as answer
use Rattle.answers.specs.Numbers.{most_bytes}
use Rattle.rules.specs.Rules.{valid_of}
use Rattle.rules.specs.Columns.{columns_of, blocks_of, rules_in}
use Rattle.header_judge.specs.Version.{bit}
use Rattle.region_rows.specs.Rows.{capacity, laid}
use Rattle.region_try.specs.Tries.{rows_found}
use Rattle.region.specs.Listing as listing
use Rattle.region.specs.Listing.{listing_told}
use Rattle.region.specs.declared.Listing.{Listing}
use Rattle.receiver.specs.Waiting.{Waiting, joined, settled, walked_on, last_tries, last_listing}
use Rattle.receiver.specs.declared.State.{State}
use Rattle.receiver.specs.declared.Receiver.{Receiver}
use Rattle.receiver.specs.declared.refusal.Refusal.{Refusal}
use Rattle.receiver.specs.declared.refusal.Refusal.TheVariants.{BadRules, BadPiece, TooLong, NotReceiving}
use Rattle.receiver.specs.Refusals.{number_of}

-- ---- a receiver

-- the most bytes that are kept
abbrev pub most_kept : ℕ
most_kept = 536

-- one that was never started, or that is finished or closed, is shut
abbrev pub shut : ℕ
shut = 0

abbrev pub in_use : ℕ
in_use = 1

-- a state, by its fields
abbrev pub state_of : ℕ → ℕ → ℕ → ℕ → ℕ → ℕ → State
state_of taken offset rows blocks whole stage =
    record { taken = taken; offset = offset; rows = rows; rule_blocks = blocks; whole = whole; stage = stage }

abbrev pub shut_down : State → State
shut_down s = state_of s.taken s.offset s.rows s.rule_blocks s.whole shut

-- how many bytes have come from its offset on
abbrev pub held_in : State → ℕ
held_in s = s.taken - s.offset

-- its rules: whole blocks of eight rows
abbrev pub rules_at : State → List ℕ → List ℕ
rules_at s columns = rules_in columns (s.rule_blocks * 8)

-- what it waits for; the bytes past the kept ones read as 0, and nothing depends on them
abbrev pub waiting_of : State → List ℕ → Waiting
waiting_of s kept =
    record {
      offset = s.offset;
      bytes = take (held_in s) kept ++ replicate (held_in s - most_kept) 0;
      rows = s.rows;
      whole = eqb s.whole 1;
    }

-- its numbers are such as a call leaves: each in its range
abbrev pub in_range : State → Bool
in_range s =
    ((((eqb s.stage in_use && leb s.whole 1) && leb s.rule_blocks 8) && leb s.taken most_bytes) && leb s.offset s.taken)
    && leb s.rows s.offset

-- the records before its offset have 1 to 524,280 bytes each, and where there is none, all is whole
unfoldable pub in_bounds : State → Bool
in_bounds s = in_range s && (leb s.offset (s.rows * 524280) && (ltb 0 s.rows || eqb s.whole 1))

-- its rules are a valid table
unfoldable pub sound : State → List ℕ → Bool
sound s columns = in_bounds s && valid_of (rules_at s columns)

-- and no record of its bytes is all in
unfoldable pub usable : State → List ℕ → List ℕ → Bool
usable s columns kept = sound s columns && eqb (length (settled (rules_at s columns) (waiting_of s kept))) 0

-- ---- start

-- a receiver that has got no byte
unfoldable pub started : List ℕ → Receiver
started rules =
    record {
      state = state_of 0 0 0 (blocks_of (length rules / 3)) 1 in_use;
      rules = columns_of rules;
      kept = replicate most_kept 0;
    }

unfoldable pub start_out : List ℕ → Result Receiver Refusal
start_out rules = cond (valid_of rules) (Ok (started rules)) (Err BadRules)

-- the receiver and the answer's number, by what it was before
abbrev pub start_told : Receiver → Result Receiver Refusal → Receiver × ℕ
start_told before (Ok r) = (r, answer.done)
start_told before (Err refusal) = (before, number_of refusal)

abbrev pub started_out : Receiver → List ℕ → Receiver × ℕ
started_out before rules = start_told before (start_out rules)

-- ---- feed

abbrev pub most_piece : ℕ
most_piece = 64

abbrev pub least_room : ℕ
least_room = 600

-- the kept bytes, the table, the state, and how many rows the table has
abbrev pub FeedOut : Type 0
FeedOut = List ℕ × List ℕ × State × Result ℕ Refusal

-- a refusal changes nothing, but that a piece too long shuts the state
abbrev pub feed_refused : Refusal → State → List ℕ → List ℕ → FeedOut
feed_refused refusal s kept t = (kept, t, s, Err refusal)

-- the state that waits for something, so many bytes being taken
abbrev pub state_at : State → ℕ → Waiting → State
state_at s taken w = state_of taken w.offset w.rows s.rule_blocks (bit w.whole) in_use

-- the bytes that are kept of some, at the start of those that were kept before
abbrev pub kept_of : List ℕ → List ℕ → List ℕ
kept_of bytes kept = take most_kept bytes ++ drop (length (take most_kept bytes)) kept

-- where some are kept, what has come is taken in behind them first, so that its header lies in one; what stands past the kept bytes means nothing
abbrev pub taken_in : ℕ → List ℕ → List ℕ → List ℕ
taken_in held bytes kept = cond (eqb held 0) kept (kept_of bytes kept)

-- a piece that is taken: the rows that are all in with it are laid at the table's start
unfoldable pub piece_taken : List ℕ → State → ℕ → Waiting → List ℕ → List ℕ → FeedOut
piece_taken rules s taken w kept t = (
  kept_of (walked_on rules w).bytes (taken_in (held_in s) w.bytes kept),
  laid (settled rules w) t,
  state_at s taken (walked_on rules w),
  Ok (length (settled rules w)),
)

unfoldable pub feed_out : State → List ℕ → List ℕ → List ℕ → List ℕ → FeedOut
feed_out s columns piece kept t =
    cond (usable s columns kept)
    (cond (ltb most_piece (length piece) || ltb (capacity t) least_room) (feed_refused BadPiece s kept t)
    (cond (ltb most_bytes (s.taken + length piece)) (feed_refused TooLong (shut_down s) kept t)
    (piece_taken (rules_at s columns) s (s.taken + length piece) (joined (waiting_of s kept) piece) kept t)))
    (feed_refused NotReceiving s kept t)

-- the rows that are told, and the answer's number: no row with a refusal
abbrev pub feed_told : Result ℕ Refusal → ℕ × ℕ
feed_told (Ok rows) = (rows, answer.done)
feed_told (Err refusal) = (0, number_of refusal)

-- the receiver, the table, its rows, and the answer's number
abbrev pub fed_out : Receiver → List ℕ → List ℕ → Receiver × List ℕ × ℕ × ℕ
fed_out r piece t =
    let out = feed_out r.state r.rules piece r.kept t in
    let told = feed_told out.3 in
    (record { state = out.2; rules = r.rules; kept = out.0 }, out.1, told.0, told.1)

-- ---- finish

-- the table, the state, and the listing
abbrev pub FinishOut : Type 0
FinishOut = List ℕ × State × Result Listing Refusal

abbrev pub finish_refused : Refusal → State → List ℕ → FinishOut
finish_refused refusal s t = (t, s, Err refusal)

-- the last row, if any, is laid at the table's start
unfoldable pub finished : List ℕ → State → Waiting → List ℕ → FinishOut
finished rules s w t = (laid (rows_found (last_tries rules w)) t, shut_down s, Ok (last_listing rules w))

unfoldable pub finish_out : State → List ℕ → List ℕ → List ℕ → FinishOut
finish_out s columns kept t =
    cond (usable s columns kept)
    (cond (ltb (capacity t) least_room) (finish_refused BadPiece s t)
    (finished (rules_at s columns) s (waiting_of s kept) t))
    (finish_refused NotReceiving s t)

-- the numbers that are told, and the answer's: zeros with a refusal
abbrev pub finish_told : Result Listing Refusal → List ℕ × ℕ
finish_told (Ok l) = (listing_told l, listing.number_of l.answer)
finish_told (Err refusal) = (replicate 5 0, number_of refusal)

-- the receiver, the table, the numbers that are told, and the answer's
abbrev pub finished_out : Receiver → List ℕ → Receiver × List ℕ × List ℕ × ℕ
finished_out r t =
    let out = finish_out r.state r.rules r.kept t in
    let told = finish_told out.2 in
    (record { state = out.1; rules = r.rules; kept = r.kept }, out.0, told.0, told.1)
