-- The end of the bytes: the one try that is left, and the listing with it.
-- Nothing being all in, the try at the start is the only one. Assumes nothing.
use mathlib.Core.Path.{◌≡◌, refl, sym, ap, ◌∙◌}
use mathlib.Core.List.{List, [], ◌∷◌}
use mathlib.Core.Bool.{Bool, true, false, not, ◌&&◌, and-true}
use Prim.Native.Nat.{ℕ, min, ◌+◌, ◌≤◌, ◌<◌}
use native.Mathlib.Nat.{add-zero}
use native.Mathlib.Omega.{arith}
use lib.ListN.{length}
use borrow.Author.Tests.{eq-eqb, ne_eqb, lt-leb}
use Rattle.std.proofs.Common.{Ok, Err}
use Rattle.header_judge.specs.declared.Summary.{Summary}
use Rattle.header_judge.specs.declared.NoRecord.{NoRecord}
use Rattle.header_judge.specs.Head.{head_of, Head}
use Rattle.region_rows.specs.Rows.{width, top, with_span, laid}
use Rattle.region_rows.proofs.Rows.{stored_none, stored_more, stored_laid, laid_none}
use Rattle.region_try.specs.Stops.{stop_by, bad_type_by, stop_of, bad_type_of}
use Rattle.region_try.specs.Tries.{Try, none, hit, try_of, span_of, rows_found, stands_at}
use Rattle.region_try.specs.Whole.{clean_stop, filled, box_unopened, keeps_whole, all_keep_whole}
use Rattle.region_try.specs.declared.stop.Stop.TheVariants.{EndOfInput, SizeZero}
use Rattle.region_try.proofs.Heads.{none_level}
use Rattle.region.specs.declared.Listing.{Listing}
use Rattle.receiver.specs.Waiting.{Waiting, last_tries, last_listing}
use Rattle.receiver.specs.Steps.{bytes_in, listing_at, end_at, last_of}
use Rattle.receiver.proofs.Arrived.{top_try, top_end, top_alone}
use Rattle.receiver.proofs.Records.{lacks_bytes, waits_here}

-- a try that finds no record is at a level
abbrev AtLevel : ℕ → Try → Type 0
AtLevel l (none level offset head) = level ≡ l
AtLevel l (hit r) = Unit {0}

-- ---- the try at a header

module _ (offset held rows : ℕ) (whole : Bool) (t : List ℕ) where
  -- no record
  pub end_none : {head : Head} {why : NoRecord} → head ≡ Err why
      → end_at (try_of 0 top offset held head) rows whole t
      ≡ (t, listing_at rows 0 (rows + 1) (whole && clean_stop (stop_by (Err why))) (stop_by (Err why)) (bad_type_by (Err why)))
  unfolding try_of end_at
  end_none e = rw e

  -- a record that declares no byte
  pub end_empty : {head : Head} (s : Summary) → head ≡ Ok s → s.declared ≡ 0
      → end_at (try_of 0 top offset held head) rows whole t ≡ (t, listing_at rows 0 (rows + 1) (whole && clean_stop SizeZero) SizeZero 0)
  unfolding try_of end_at
  end_empty s is e = rw (is, eq-eqb s.declared 0 e)

  -- and one that lacks bytes
  pub end_short : {head : Head} (s : Summary) → head ≡ Ok s → (s.declared ≡ 0 → ⊥) → bytes_in held head ≡ 0
      → end_at (try_of 0 top offset held head) rows whole t ≡ (with_span t 0 (span_of 0 top offset held s), listing_at (rows + 1) 1 (rows + 1) false EndOfInput 0)
  unfolding try_of end_at keeps_whole
  end_short s is some waits =
      let lacks : held < s.declared = lacks_bytes held s (omega arith) (rw is at waits) in
      rw (is, ne_eqb s.declared 0 some, lt-leb s.declared (min s.declared held) (omega arith)) (whole_not whole)
    where
      whole_not : (b : Bool) → ◌≡◌ {A = List ℕ × Listing} (with_span t 0 (span_of 0 top offset held s), listing_at (rows + 1) 1 (rows + 1) (b && false) EndOfInput 0) (with_span t 0 (span_of 0 top offset held s), listing_at (rows + 1) 1 (rows + 1) false EndOfInput 0)
      whole_not true = refl
      whole_not false = refl

-- ---- the listing at the end

-- by the last tries
abbrev ended : List Try → ℕ → Bool → List ℕ → List ℕ × Listing
ended vs rows whole t =
    let standing = stands_at 0 vs in
    (laid (rows_found vs) t, listing_at (rows + length (rows_found vs)) (length (rows_found vs)) (rows + length vs) (whole && all_keep_whole vs) (stop_of standing) (bad_type_of standing))

ended_none : (rows : ℕ) (whole : Bool) (t : List ℕ) → ended [] rows whole t ≡ (t, listing_at rows 0 rows whole EndOfInput 0)
unfolding rows_found stands_at all_keep_whole
ended_none rows whole t = rw (laid_none [] t refl, add-zero rows, and-true whole)

ended_one : (v : Try) (rows : ℕ) (whole : Bool) (t : List ℕ) → AtLevel 0 v → width ≤ length t → ended (v ∷ []) rows whole t ≡ end_at v rows whole t
unfolding rows_found stands_at all_keep_whole keeps_whole end_at
ended_one (none level offset head) rows whole t at h = rw (eq-eqb level 0 at, laid_none [] t refl, add-zero rows, and-true (clean_stop (stop_by head)))
ended_one (hit r) rows whole t at h =
    let one : laid (r ∷ []) t ≡ with_span t 0 r = sym (stored_laid (r ∷ []) t h) ∙ stored_more t 0 r [] ∙ stored_none (with_span t 0 r) 1 in
    rw (one, and-true (filled r && not (box_unopened r)))

module _ (rules : List ℕ) (w : Waiting) (t : List ℕ) where
  by_tries : {vs : List Try} → last_tries rules w ≡ vs → last_of rules w t ≡ ended vs w.rows w.whole t
  unfolding last_of last_listing
  by_tries e = ap (λ (vs : List Try). ended vs w.rows w.whole t) e

  -- no byte is left
  pub last_none : length w.bytes ≡ 0 → last_of rules w t ≡ (t, listing_at w.rows 0 w.rows w.whole EndOfInput 0)
  last_none e = by_tries (top_end rules w.bytes w.offset (omega arith)) ∙ ended_none w.rows w.whole t

  -- the try at the start is the only one
  pub last_one : 0 < length w.bytes → bytes_in (length w.bytes) (head_of rules w.bytes) ≡ 0 → width ≤ length t
      → last_of rules w t ≡ end_at (top_try rules w.bytes w.offset) w.rows w.whole t
  last_one some waits room =
      by_tries (top_alone rules w.bytes w.offset some (waits_here rules w.bytes w.offset waits))
      ∙ ended_one (top_try rules w.bytes w.offset) w.rows w.whole t (at_level (length w.bytes) (head_of rules w.bytes) _ refl) room
    where
      at_level : (left : ℕ) (head : Head) (v : Try) → try_of 0 top w.offset left head ≡ v → AtLevel 0 v
      at_level left head (none level offset h) e = none_level 0 top w.offset left head e
      at_level left head (hit r) e = tt
