-- The rows that are printed are the rows that the listing shows, in their order.
-- A row read back from a table that has it is that row. Assumes nothing.
use mathlib.Core.Path.{◌≡◌, refl, ap, ◌∙◌}
use mathlib.Core.List.{List, [], ◌++◌}
use mathlib.Core.Bool.{true}
use Prim.Native.Nat.{ℕ, ◌*◌, ◌/◌, ◌≤◌, min}
use native.Mathlib.Omega.{arith}
use borrow.Author.Tests.{le-ltb}
use lib.ListN.{length, length-replicate}
use Rattle.answers.specs.Numbers.{most_bytes}
use Rattle.rules.specs.Rules.{valid_of, flags_small, rules_of}
use Rattle.region_rows.specs.declared.Span.{Span}
use Rattle.region_rows.specs.Rows as table
use Rattle.region_rows.specs.Rows.{width, capacity}
use Rattle.region_rows.proofs.Rows.{spans_laid}
use Rattle.region_try.specs.Stops.{Standing, unknown}
use Rattle.region_try.specs.Tries.{Try, all_tries}
use Rattle.region.specs.Listing.{Shown, shown, top_stands, tries_listing, tries_showing, walked}
use Rattle.region.proofs.Shows.{listed_walked}
use Rattle.cper_header.specs.Record.{is_cper}
use Rattle.cper_regions.specs.Regions.{crash_log_id}
use Rattle.cper_regions.specs.Listing.{cper_tries, room, cper_walked}
use Rattle.cper_regions.proofs.Shows as regions
use Rattle.text.specs.Dump.{heading, lines, last_line, most_input, most_tries, most_rows, listing, text_of_listing, empty_table, dump_text, shown_text}
use Rattle.text.specs.CperDump.{most_cper_tries, most_cper_rows, cper_dump_text}

no_rules : valid_of [] ≡ true
unfolding valid_of flags_small rules_of
no_rules = refl

rows_of_table : (rows : ℕ) → capacity (empty_table rows) ≡ rows
unfolding empty_table
rows_of_table rows = ap (λ (n : ℕ). n / width) (length-replicate (rows * width) 0) ∙ omega arith

module _ (standing : Standing) (tries : List Try) where
  -- the text of what is shown of some tries
  showing_text : (t : List ℕ) (s : Shown) → text_of_listing (tries_showing standing tries t s) ≡ shown_text standing tries s
  unfolding text_of_listing
  showing_text t s =
      ap (λ (rs : List Span). heading ++ lines rs ++ last_line (tries_listing standing tries s)) (spans_laid s.rows t)

  -- where so many rows of the table are used
  shown_text_lem : (t : List ℕ) (limit : ℕ) {used rows : ℕ} → used ≡ rows
      → text_of_listing (tries_showing standing tries t (shown limit used tries)) ≡ shown_text standing tries (shown limit rows tries)
  shown_text_lem t limit {used} e = showing_text t (shown limit used tries) ∙ ap (λ (n : ℕ). shown_text standing tries (shown limit n tries)) e

-- ---- a region

listing_walked : (region t : List ℕ) → length region ≤ most_input → listing region t ≡ walked [] region most_tries t
unfolding listing
listing_walked region t h = rw (le-ltb most_input (length region) h) (listed_walked [] region most_tries t (omega arith) no_rules)

-- the text of a region that is not too long: the lines of the rows that its tries find, with 81,920 tries and room for 512 rows
pub printed : (region : List ℕ) → length region ≤ most_input
    → dump_text region ≡ shown_text (top_stands [] region) (all_tries [] region) (shown most_tries most_rows (all_tries [] region))
unfolding dump_text walked
printed region h =
    ap text_of_listing (listing_walked region (empty_table most_rows) h)
    ∙ shown_text_lem (top_stands [] region) (all_tries [] region) (empty_table most_rows) most_tries (rows_of_table most_rows)

-- ---- a CPER

used_of_table : room (empty_table most_cper_rows) ≡ most_cper_rows
used_of_table = ap (λ (n : ℕ). min n table.most_rows) (rows_of_table most_cper_rows)

-- the text of one that is not too long: the lines of the rows that the tries in its regions find, with 1,310,720 tries and room for 4,096 rows
pub printed_cper : (cper : List ℕ) → length cper ≤ most_bytes → is_cper cper ≡ true
    → cper_dump_text cper ≡ shown_text unknown (cper_tries [] cper crash_log_id) (shown most_cper_tries most_cper_rows (cper_tries [] cper crash_log_id))
unfolding cper_dump_text cper_walked
printed_cper cper h is =
    ap text_of_listing (regions.listed_walked [] cper crash_log_id most_cper_tries (empty_table most_cper_rows) h no_rules is)
    ∙ shown_text_lem unknown (cper_tries [] cper crash_log_id) (empty_table most_cper_rows) most_cper_tries used_of_table
