-- The listing as a function of the bytes, the rules, the limit and the table (document 01, 'The nested listing').
use Rattle.std.specs.Prelude.{ℕ, zero, suc, List, [], ◌∷◌, Bool, false, cond, ◌&&◌, eqb, ltb, length}
use Rattle.answers.specs.Numbers as answer
use Rattle.answers.specs.Numbers.{most_bytes}
use Rattle.rules.specs.Rules.{valid_of}
use Rattle.header_judge.specs.Version.{bit}
use Rattle.region_rows.specs.declared.Span.{Span}
use Rattle.region_rows.specs.Rows.{capacity, laid}
use Rattle.region_try.specs.Stops.{Standing, standing_told, stop_of, bad_type_of, stop_number}
use Rattle.region_try.specs.Tries.{Try, none, hit, stands_at, all_tries}
use Rattle.region_try.specs.Whole.{all_keep_whole}
use Rattle.region_try.specs.declared.Cut.{Cut}
use Rattle.region_try.specs.declared.Cut.TheVariants.{Going, Full, Spent}
use Rattle.region_try.specs.declared.stop.Stop.{Stop}
use Rattle.region_walk.specs.declared.Walked.{Walked}
use Rattle.region.specs.declared.Answer.{Answer}
use Rattle.region.specs.declared.Answer.TheVariants.{Done, TooLong, BadRules, NotCper, BadHeader, BadType, Empty, SpansFull, TriesSpent}
use Rattle.region.specs.declared.Listing.{Listing}

-- ---- the answers

-- document 01's number of each answer
abbrev pub number_of : Answer → ℕ
number_of Done = answer.done
number_of TooLong = answer.too_long
number_of BadRules = answer.bad_rules
number_of NotCper = answer.not_cper
number_of BadHeader = answer.bad_header
number_of (BadType t) = answer.bad_type
number_of Empty = answer.empty
number_of SpansFull = answer.spans_full
number_of TriesSpent = answer.tries_spent

-- the value that comes with it: the bad type; 0 where there is none
abbrev pub type_of : Answer → ℕ
type_of Done = 0
type_of TooLong = 0
type_of BadRules = 0
type_of NotCper = 0
type_of BadHeader = 0
type_of (BadType t) = t
type_of Empty = 0
type_of SpansFull = 0
type_of TriesSpent = 0

-- the answer where the top region stops without a record, by the reason and its bad type
abbrev pub answer_without : Stop → ℕ → Answer
answer_without Stop.Untold t = Empty
answer_without Stop.EndOfInput t = Empty
answer_without Stop.ZeroWord t = Empty
answer_without Stop.DeadbeefWord t = Empty
answer_without Stop.FewBytes t = Empty
answer_without Stop.BadHeader t = BadHeader
answer_without Stop.BadType t = BadType t
answer_without Stop.SizeZero t = Empty

-- the answer from what cut the walk off, the number of rows, and why the top region stops
abbrev pub answer_of : Cut → ℕ → Stop → ℕ → Answer
answer_of Full n stop t = SpansFull
answer_of Spent n stop t = TriesSpent
answer_of Going zero stop t = answer_without stop t
answer_of Going (suc n) stop t = Done

-- ---- the rows

-- what is shown: rows, tries made, and what cut the walk off
pub record Shown : Type 0 where
  pub rows : List Span
  pub tries : ℕ
  pub cut : Cut

-- one try more before what is shown, and the row that it finds
abbrev pub tried : Shown → Shown
tried s = record { rows = s.rows; tries = suc s.tries; cut = s.cut }

abbrev pub tried_row : Span → Shown → Shown
tried_row r s = record { rows = r ∷ s.rows; tries = suc s.tries; cut = s.cut }

-- the tries up to the limit; a record for which no row is free ends them
unfoldable pub shown : ℕ → ℕ → List Try → Shown
shown limit room [] = record { rows = []; tries = 0; cut = Going }
shown zero room (v ∷ vs) = record { rows = []; tries = 0; cut = Spent }
shown (suc limit) room (none level offset head ∷ vs) = tried (shown limit room vs)
shown (suc limit) zero (hit r ∷ vs) = record { rows = []; tries = 1; cut = Full }
shown (suc limit) (suc room) (hit r ∷ vs) = tried_row r (shown limit room vs)

-- ---- the listing of some tries

-- yes exactly when the answer is 0 and every try keeps it whole (document 02, C-14)
abbrev pub whole_of : Answer → List Try → Bool
whole_of answer tries = eqb (number_of answer) 0 && all_keep_whole tries

-- the answer of what is shown
abbrev pub answer_shown : Standing → Shown → Answer
answer_shown standing s = answer_of s.cut (length s.rows) (stop_of standing) (bad_type_of standing)

-- the listing of some tries, of which so much is shown; this stands where the top region stops
abbrev pub tries_listing : Standing → List Try → Shown → Listing
tries_listing standing tries s =
    let answer = answer_shown standing s in
    record {
      answer = answer;
      rows = length s.rows;
      tries = s.tries;
      whole = whole_of answer tries;
      stop = stop_of (standing_told s.cut standing);
    }

-- what is told of it in numbers: rows, tries, the bad type, whether it is whole, and why the top region stopped
abbrev pub listing_told : Listing → List ℕ
listing_told l = l.rows ∷ l.tries ∷ type_of l.answer ∷ bit l.whole ∷ stop_number l.stop ∷ []

abbrev pub refusal : Answer → Listing
refusal answer = record { answer = answer; rows = 0; tries = 0; whole = false; stop = Stop.Untold }

-- the listing at the end of a walk
abbrev pub listing_at : Walked → Listing
listing_at end =
    let answer = answer_of end.cut end.rows end.stop end.bad_type in
    record { answer = answer; rows = end.rows; tries = end.tries; whole = eqb (number_of answer) 0 && end.whole; stop = end.stop }

-- the table with the rows laid at its start, and the listing
abbrev pub tries_showing : Standing → List Try → List ℕ → Shown → List ℕ × Listing
tries_showing standing tries t s = (laid s.rows t, tries_listing standing tries s)

-- ---- the listing of a region

-- what stands where it stops
abbrev pub top_stands : List ℕ → List ℕ → Standing
top_stands rules bytes = stands_at 0 (all_tries rules bytes)

abbrev pub listing_of : List ℕ → List ℕ → Shown → Listing
listing_of rules bytes s = tries_listing (top_stands rules bytes) (all_tries rules bytes) s

abbrev pub showing : List ℕ → List ℕ → List ℕ → Shown → List ℕ × Listing
showing rules bytes t s = tries_showing (top_stands rules bytes) (all_tries rules bytes) t s

-- the table and the listing at the end, where nothing is refused
unfoldable pub walked : List ℕ → List ℕ → ℕ → List ℕ → List ℕ × Listing
walked rules bytes limit t = showing rules bytes t (shown limit (capacity t) (all_tries rules bytes))

-- the table and the listing at the end; the length is judged first, then the rules
unfoldable pub listed : List ℕ → List ℕ → ℕ → List ℕ → List ℕ × Listing
listed rules bytes limit t =
    cond (ltb most_bytes (length bytes)) (t, refusal TooLong)
    (cond (valid_of rules) (walked rules bytes limit t) (t, refusal BadRules))
