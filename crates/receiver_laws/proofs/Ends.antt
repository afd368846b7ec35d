-- What is settled after some bytes, and what their end settles, make the listing of the tries at level 0.
-- They are all of these tries; a record that is all in stops no walk. Assumes nothing.
use mathlib.Core.Path.{◌≡◌, refl, sym, ap, ◌∙◌}
use mathlib.Core.List.{List, [], ◌∷◌, ◌++◌, map}
use mathlib.Core.Bool.{Bool, true, ◌&&◌, and_assoc}
use Prim.Native.Nat.{ℕ, ◌+◌}
use native.Mathlib.Omega.{arith}
use lib.ListN.{length, length-append}
use Rattle.region_rows.specs.declared.Span.{Span}
use Rattle.region_try.specs.Tries.{Try, hit, rows_found, stands_at}
use Rattle.region_try.specs.Whole.{keeps_whole, all_keep_whole}
use Rattle.region.specs.declared.Listing.{Listing}
use Rattle.receiver.specs.Arrived.{top_tries, arrived, whole_with}
use Rattle.receiver.specs.Waiting.{last_tries, last_listing}
use Rattle.receiver.proofs.Arrived.{arrived_then}
use Rattle.receiver_laws.specs.Stands.{after}
use Rattle.receiver_laws.specs.Received.{listing_by}

-- a listing with so many rows
abbrev pub rows_told : ℕ → Listing → Listing
rows_told rows l = record { answer = l.answer; rows = rows; tries = l.tries; whole = l.whole; stop = l.stop }

-- ---- tries after some records

hits_rows : (rs : List Span) (vs : List Try) → rows_found (map hit rs ++ vs) ≡ rs ++ rows_found vs
unfolding rows_found
hits_rows [] vs = refl
hits_rows (r ∷ rs) vs = ap (λ (ss : List Span). r ∷ ss) (hits_rows rs vs)

hits_long : (rs : List Span) (vs : List Try) → length (map hit rs ++ vs) ≡ length rs + length vs
hits_long [] vs = omega arith
hits_long (r ∷ rs) vs = omega (arith, hits_long rs vs)

hits_stand : (rs : List Span) (vs : List Try) → stands_at 0 (map hit rs ++ vs) ≡ stands_at 0 vs
unfolding stands_at
hits_stand [] vs = refl
hits_stand (r ∷ rs) vs = hits_stand rs vs

hits_whole : (whole : Bool) (rs : List Span) (vs : List Try) → (whole && all_keep_whole (map hit rs ++ vs)) ≡ (whole_with whole rs && all_keep_whole vs)
unfolding all_keep_whole whole_with
hits_whole whole [] vs = refl
hits_whole whole (r ∷ rs) vs = sym (and_assoc whole (keeps_whole (hit r)) (all_keep_whole (map hit rs ++ vs))) ∙ hits_whole (whole && keeps_whole (hit r)) rs vs

module _ (rules bytes : List ℕ) where
  -- the tries at level 0, and those that the end settles
  abbrev all : List Try
  all = top_tries rules bytes 0

  abbrev last : List Try
  last = last_tries rules (after rules bytes)

  abbrev rows : List Span
  rows = arrived rules bytes 0

  all_are : all ≡ map hit rows ++ last
  all_are = arrived_then rules bytes 0

  pub end_rows : rows_found all ≡ rows ++ rows_found last
  end_rows = ap rows_found all_are ∙ hits_rows rows last

  -- the listing of all of them, but that its rows are the last alone
  pub end_listing : last_listing rules (after rules bytes) ≡ rows_told (length (rows_found last)) (listing_by all)
  unfolding last_listing
  end_listing =
      let count : 0 + length rows + length (rows_found last) ≡ length (rows_found all) = omega (arith, ap length end_rows, length-append rows (rows_found last)) in
      let tries : 0 + length rows + length last ≡ length all = omega (arith, ap length all_are, hits_long rows last) in
      let standing : stands_at 0 last ≡ stands_at 0 all = sym (ap (stands_at 0) all_are ∙ hits_stand rows last) in
      let whole : (whole_with true rows && all_keep_whole last) ≡ all_keep_whole all = sym (ap all_keep_whole all_are ∙ hits_whole true rows last) in
      rw (count, tries, standing, whole)
