-- A listing makes at most five tries for each byte; for each four bytes where no rule has the flag for sizes in bytes.
-- From the bound on a region's tries, over bytes and over fours. Assumes nothing.
use mathlib.Core.Path.{◌≡◌, refl}
use mathlib.Core.List.{List}
use mathlib.Core.Bool.{true, false}
use Prim.Native.Nat.{ℕ, ◌*◌, ◌%◌, ◌≤◌}
use native.Mathlib.Omega.{arith}
use lib.ListN.{length}
use Rattle.std.proofs.Common.{Ok}
use Rattle.basics.specs.Bits.{has}
use Rattle.rules.specs.Rules.{sizes_in_bytes, rules_of, flags_of, none_has}
use Rattle.rules.proofs.Laws.{flags_lack}
use Rattle.header_judge.specs.Version.{word_of}
use Rattle.header_judge.specs.Head.{declared_of, head_of}
use Rattle.header_judge.specs.declared.Summary.{Summary}
use Rattle.region_try.specs.Tries.{deepest, all_tries}
use Rattle.region_rows.specs.Rows.{top, capacity}
use Rattle.region.specs.Listing.{walked, listed}
use Rattle.region.specs.declared.Listing.{Listing}
use Rattle.region_try.proofs.Bound.{Units, region_bound, all_bound, bytes_are_units}
use Rattle.region_laws.specs.Positions.{visited_from, visited}
use Rattle.region.proofs.Shows.{listed_cases}
use Rattle.header_judge.proofs.Heads.{record_told}
use Rattle.region_laws.specs.Whole.{most_of, fours}
use Rattle.region_laws.proofs.Shown.{tries_le}
use Rattle.region_laws.proofs.Positions.{region_tries_visited}

-- ---- sizes in fours

declared_fours : (bs : List ℕ) (flags : ℕ) → has flags sizes_in_bytes ≡ false → declared_of bs flags % 4 ≡ 0
unfolding declared_of
declared_fours bs flags e = rw e (omega arith)

module _ (rules : List ℕ) (words : none_has sizes_in_bytes (rules_of rules) ≡ true) where
  record_fours : (bs : List ℕ) (s : Summary) → head_of rules bs ≡ Ok s → s.declared % 4 ≡ 0
  record_fours bs s e =
      let word = word_of bs in
      rw (record_told rules bs e).is (declared_fours bs (flags_of rules word) (flags_lack rules word 3 words))

  fours_are_units : Units rules fours
  fours_are_units =
      record {
        of_none = refl;
        of_some = λ n h. omega arith;
        of_more = λ m n h. omega arith;
        of_record = λ bs s e n. let k : s.declared % 4 ≡ 0 = record_fours bs s e in omega arith;
      }

-- ---- the positions visited

module _ (rules : List ℕ) (u : ℕ → ℕ) (units : Units rules u) where
  visited_bound : (at : ℕ) (bytes : List ℕ) → length (visited_from rules at bytes) ≤ 5 * u (length bytes)
  visited_bound at bytes = rw region_tries_visited at (region_bound rules u units deepest bytes at top 0)

  listed_bound : (bytes : List ℕ) (limit : ℕ) (t : List ℕ) → (listed rules bytes limit t).1.tries ≤ 5 * u (length bytes)
  unfolding walked
  listed_bound bytes limit t =
      listed_cases (λ (x : List ℕ × Listing). x.1.tries ≤ 5 * u (length bytes)) rules bytes limit t (omega arith) (omega arith)
      (λ short valid. omega (arith, tries_le limit (capacity t) (all_tries rules bytes), all_bound rules u units bytes))

-- at most 5 times n
pub visited_from_five_times : (rules : List ℕ) (at : ℕ) (bytes : List ℕ) → length (visited_from rules at bytes) ≤ most_of (length bytes)
visited_from_five_times rules = visited_bound rules (λ n. n) (bytes_are_units rules)

pub visited_five_times : (rules bytes : List ℕ) → length (visited rules bytes) ≤ most_of (length bytes)
visited_five_times rules bytes = visited_from_five_times rules 0 bytes

pub tries_five_times : (rules bytes : List ℕ) (limit : ℕ) (t : List ℕ) → (listed rules bytes limit t).1.tries ≤ most_of (length bytes)
tries_five_times rules bytes limit t = listed_bound rules (λ n. n) (bytes_are_units rules) bytes limit t

-- at most 5 times n/4 rounded up, where no rule selects byte sizes
pub visited_from_five_times_fours : (rules : List ℕ) → none_has sizes_in_bytes (rules_of rules) ≡ true → (at : ℕ) (bytes : List ℕ) → length (visited_from rules at bytes) ≤ most_of (fours (length bytes))
visited_from_five_times_fours rules words = visited_bound rules fours (fours_are_units rules words)

pub visited_five_times_fours : (rules bytes : List ℕ) → none_has sizes_in_bytes (rules_of rules) ≡ true → length (visited rules bytes) ≤ most_of (fours (length bytes))
visited_five_times_fours rules bytes words = visited_from_five_times_fours rules words 0 bytes

pub tries_five_times_fours : (rules bytes : List ℕ) (limit : ℕ) (t : List ℕ) → none_has sizes_in_bytes (rules_of rules) ≡ true → (listed rules bytes limit t).1.tries ≤ most_of (fours (length bytes))
tries_five_times_fours rules bytes limit t words = listed_bound rules fours (fours_are_units rules words) bytes limit t
