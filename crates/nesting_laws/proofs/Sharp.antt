-- The two regions are what they are said to be.
-- By computing their rows. Assumes nothing.
use mathlib.Core.Path.{◌≡◌, refl, ap}
use mathlib.Core.List.{List, [], ◌∷◌}
use mathlib.Core.Option.{some}
use Prim.Native.Nat.{ℕ}
use native.Mathlib.Omega.{arith}
use lib.ListN.{get_elem?}
use Rattle.le.specs.Le.{le}
use Rattle.rules.specs.Rules.{rules_of, with_rules, flags_of, flags_small, valid_of}
use Rattle.header_judge.specs.Version.{word_of, ending_of}
use Rattle.header_judge.specs.Head.{no_die, declared_of, size_of, origin_of, head_with, head_of}
use Rattle.region_rows.specs.declared.Span.{Span}
use Rattle.region_rows.specs.Rows.{top, flat, laid, spans_in}
use Rattle.region_try.specs.Tries.{try_of, rows_found, stands_at, onward, records, box_tries, region_tries, all_tries}
use Rattle.region_try.specs.Whole.{keeps_whole, all_keep_whole}
use Rattle.region.specs.Listing.{shown, walked, listed}
use Rattle.nesting_laws.specs.Nesting.{At}
use Rattle.nesting_laws.specs.Sharp.{rows_in, boxes, NotItsParent, shorts, HeaderReaches}
use Rattle.nesting_laws.proofs.Numbers.{at_once}

abbrev row : ℕ → ℕ → ℕ → ℕ → ℕ → Span
row level parent offset held word =
    record { level = level; parent = parent; offset = offset; held = held; declared = held; size = 8; word = word; socket = 0; die = no_die; flags = 0 }

abbrev three_boxes : List Span
three_boxes = row 0 top 0 24 0x3d123101 ∷ row 1 0 8 16 0x3d123101 ∷ row 2 1 16 8 0x03123101 ∷ []

abbrev two_shorts : List Span
two_shorts = row 0 top 0 4 1 ∷ row 0 top 4 4 1 ∷ []

computed : (rows_in boxes ≡ three_boxes) × (rows_in shorts ≡ two_shorts)
unfolding le rules_of with_rules flags_of flags_small valid_of word_of ending_of declared_of size_of origin_of head_with head_of try_of rows_found stands_at onward records box_tries region_tries all_tries keeps_whole all_keep_whole shown flat laid spans_in walked listed
computed = (refl, refl)

-- row number i, from 0 on
nth : (rows : List Span) (i : ℕ) {r : Span} → get_elem? rows i ≡ some r → At 0 rows i r
nth rows i e = record { place = i; number = omega arith; is = e }

pub not_its_parent : NotItsParent (rows_in boxes)
not_its_parent =
    rw computed.0
    (record {
      i = 0;
      j = 2;
      a = row 0 top 0 24 0x3d123101;
      b = row 2 1 16 8 0x03123101;
      outer = nth three_boxes 0 refl;
      inner = nth three_boxes 2 refl;
      inside = (omega arith, omega arith);
      not_parent = λ h. omega (arith, h.number, ap (λ (s : Span). s.parent) (at_once h.at (nth three_boxes 2 refl)));
    })

pub header_reaches : HeaderReaches (rows_in shorts)
header_reaches =
    rw computed.1
    (record {
      i = 0;
      j = 1;
      a = row 0 top 0 4 1;
      b = row 0 top 4 4 1;
      first = nth two_shorts 0 refl;
      second = nth two_shorts 1 refl;
      apart = λ k f g. omega arith;
      byte = 4;
      of_header = (omega arith, omega arith);
      held = (omega arith, omega arith);
    })
