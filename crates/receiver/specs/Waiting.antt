-- A walk that waits for bytes (document 02, C-11): what a piece settles, and what the end of the bytes does.
use Rattle.std.specs.Prelude.{ℕ, ◌+◌, List, ◌++◌, Bool, true, ◌&&◌, eqb, length, drop}
use Rattle.region_rows.specs.declared.Span.{Span}
use Rattle.region_try.specs.Stops.{stop_of, bad_type_of}
use Rattle.region_try.specs.Tries.{Try, rows_found, stands_at}
use Rattle.region_try.specs.Whole.{all_keep_whole}
use Rattle.region_try.specs.declared.Cut.TheVariants.{Going}
use Rattle.region.specs.Listing.{number_of, answer_of}
use Rattle.region.specs.declared.Answer.{Answer}
use Rattle.region.specs.declared.Listing.{Listing}
use Rattle.receiver.specs.Arrived.{top_tries, arrived, extent, whole_with}

-- where the walk stands, what has come from there on, how many records stand before, and whether each of them leaves the listing whole
pub record Waiting : Type 0 where
  pub offset : ℕ
  pub bytes : List ℕ
  pub rows : ℕ
  pub whole : Bool

-- all that has come, before any of it is walked
abbrev pub unwalked : List ℕ → Waiting
unwalked bytes = record { offset = 0; bytes = bytes; rows = 0; whole = true }

-- past some records
abbrev pub past : Waiting → List Span → Waiting
past w rs =
    record {
      offset = w.offset + extent rs;
      bytes = drop (extent rs) w.bytes;
      rows = w.rows + length rs;
      whole = whole_with w.whole rs;
    }

-- with a piece more
abbrev pub joined : Waiting → List ℕ → Waiting
joined w piece = record { offset = w.offset; bytes = w.bytes ++ piece; rows = w.rows; whole = w.whole }

module _ (rules : List ℕ) where
  -- the records that are all in
  abbrev pub settled : Waiting → List Span
  settled w = arrived rules w.bytes w.offset

  -- past them
  abbrev pub walked_on : Waiting → Waiting
  walked_on w = past w (settled w)

  -- the tries that the end of the bytes settles
  abbrev pub last_tries : Waiting → List Try
  last_tries w = top_tries rules w.bytes w.offset

  -- the answer at the end
  abbrev pub last_answer : Waiting → Answer
  last_answer w =
      let standing = stands_at 0 (last_tries w) in
      answer_of Going (w.rows + length (rows_found (last_tries w))) (stop_of standing) (bad_type_of standing)

  -- the listing of the level-0 walk, but that its rows are those of the last tries alone
  unfoldable pub last_listing : Waiting → Listing
  last_listing w =
      record {
        answer = last_answer w;
        rows = length (rows_found (last_tries w));
        tries = w.rows + length (last_tries w);
        whole = eqb (number_of (last_answer w)) 0 && (w.whole && all_keep_whole (last_tries w));
        stop = stop_of (stands_at 0 (last_tries w));
      }
