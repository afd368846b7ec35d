-- What the inner functions of the receiver give: a record that is all in, those of some bytes, and what is kept after them.
use Rattle.std.specs.Prelude.{ℕ, ◌+◌, ◌-◌, ◌*◌, ◌^◌, ◌≤◌, ◌<◌, List, ◌++◌, Bool, cond, ◌&&◌, eqb, leb, length, take, drop, replicate}
use Rattle.header_judge.specs.Head.{declared_by, Head}
use Rattle.region_rows.specs.declared.Span.{Span}
use Rattle.region_rows.specs.Rows.{width, with_span, stored, laid}
use Rattle.region_try.specs.Stops.{stop_by, bad_type_by}
use Rattle.region_try.specs.Tries.{Try, none, hit, rows_found}
use Rattle.region_try.specs.Whole.{clean_stop, keeps_whole}
use Rattle.region_try.specs.declared.Cut.TheVariants.{Going}
use Rattle.region_try.specs.declared.stop.Stop.{Stop}
use Rattle.region_try.specs.declared.stop.Stop.TheVariants.{EndOfInput}
use Rattle.region.specs.Listing.{number_of, answer_of}
use Rattle.region.specs.declared.Listing.{Listing}
use Rattle.receiver.specs.Arrived.{arrived, extent, whole_with}
use Rattle.receiver.specs.Waiting.{Waiting, last_tries, last_listing}
use Rattle.receiver.specs.Calls.{most_kept, held_in, waiting_of, kept_of, taken_in}
use Rattle.receiver.specs.declared.State.{State}
use Rattle.receiver.specs.declared.piece.Moved.{Moved}

-- the bytes of the record that a header declares, where so many have come: 0 where it declares none, or more
unfoldable pub bytes_in : ℕ → Head → ℕ
bytes_in left head = cond (leb (declared_by head) left) (declared_by head) 0

-- so many bytes can be walked from a place: their offsets and rows are numbers that fit, and the table has room for a row each
abbrev pub HasRoom : Moved → ℕ → List ℕ → Type 0
HasRoom m count t = (m.offset + count < 2 ^ 32) × (m.rows + count < 2 ^ 32) × ((m.rows + count) * width ≤ length t)

-- past one try: where it finds a record, that has its row
unfoldable pub put_of : Try → Moved → List ℕ → List ℕ × Moved
put_of (none level offset head) m t = (t, m)
put_of (hit r) m t = (with_span t m.rows r, record { rows = m.rows + 1; offset = m.offset + r.declared; whole = m.whole && keeps_whole (hit r) })

-- past some records
abbrev pub moved_past : Moved → List Span → Moved
moved_past m rs = record { rows = m.rows + length rs; offset = m.offset + extent rs; whole = whole_with m.whole rs }

-- a pass over some bytes from where a walk stands: the table with the rows of the records that are all in, and how far the walk has come
unfoldable pub pass_of : List ℕ → List ℕ → Moved → List ℕ → List ℕ × Moved
pass_of rules bytes m t =
    let rs = arrived rules bytes m.offset in
    (stored t m.rows rs, moved_past m rs)

-- and the bytes that are kept after it
unfoldable pub moved_of : List ℕ → List ℕ → Moved → List ℕ → List ℕ → List ℕ × List ℕ × Moved
moved_of rules bytes m kept t =
    let rs = arrived rules bytes m.offset in
    (kept_of (drop (extent rs) bytes) kept, stored t m.rows rs, moved_past m rs)

-- what has come, where so many bytes are held and the first of them kept
abbrev pub held_bytes : ℕ → List ℕ → List ℕ
held_bytes held kept = take held kept ++ replicate (held - most_kept) 0

-- and with a piece after them
abbrev pub came_bytes : ℕ → List ℕ → List ℕ → List ℕ
came_bytes held kept piece = held_bytes held kept ++ piece

-- where a state's walk stands, before the rows of a piece
abbrev pub walk_of : State → Moved
walk_of s = record { rows = 0; offset = s.offset; whole = eqb s.whole 1 }

-- what a piece leaves of a state's walk: its rows are the table's first
abbrev pub taken_of : List ℕ → State → List ℕ → List ℕ → List ℕ → List ℕ × List ℕ × Moved
taken_of rules s piece kept t =
    let bytes = (waiting_of s kept).bytes ++ piece in
    moved_of rules bytes (walk_of s) (taken_in (held_in s) bytes kept) t

-- the listing of a walk that is not cut off, with so many rows in all, of which some are written now
abbrev pub listing_at : ℕ → ℕ → ℕ → Bool → Stop → ℕ → Listing
listing_at rows written tries whole stop type =
    let answer = answer_of Going rows stop type in
    record { answer = answer; rows = written; tries = tries; whole = eqb (number_of answer) 0 && whole; stop = stop }

-- the table and the listing where a try is the last, after so many rows: the row of a record that lacks bytes is the table's first
unfoldable pub end_at : Try → ℕ → Bool → List ℕ → List ℕ × Listing
end_at (none level offset head) rows whole t = (t, listing_at rows 0 (rows + 1) (whole && clean_stop (stop_by head)) (stop_by head) (bad_type_by head))
end_at (hit r) rows whole t = (with_span t 0 r, listing_at (rows + 1) 1 (rows + 1) (whole && keeps_whole (hit r)) EndOfInput 0)

-- the table and the listing at the end of the bytes
unfoldable pub last_of : List ℕ → Waiting → List ℕ → List ℕ × Listing
last_of rules w t = (laid (rows_found (last_tries rules w)) t, last_listing rules w)
