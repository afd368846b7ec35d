-- `put_listing` puts the heading, the rows and the last line.
-- One after the other, from the start. Assumes nothing.
use mathlib.Core.Path.{refl}
use mathlib.Core.List.{List}
use Prim.Native.Nat.{ℕ, ◌+◌}
use native.Mathlib.Omega.{arith}
use Rattle.std.proofs.Common.{rules}
use Rattle.region.specs.declared.Listing.{Listing}
use Rattle.region_rows.specs.Rows.{spans_in}
use Rattle.text.specs.declared.page.Page.{Page}
use Rattle.text.specs.Dump.{heading, lines, last_line, text_of_listing}
use Rattle.text.specs.Steps.{Puts}
use Rattle.text.proofs.Pieces.{then, at_start}
use Rattle.text.proofs.put_listing.Goals as goal

pieces : {start headed filled done : Page} {m n k : ℕ} (t : List ℕ) (l : Listing)
    → Puts start heading m headed → Puts headed (lines (spans_in t l.rows)) n filled → Puts filled (last_line l) k done
    → Puts start (text_of_listing (t, l)) (m + n + k) done
unfolding text_of_listing
pieces t l head rows last = then (then head rows) last

pub returns : goal.returns
returns c =
    let put = pieces c.args.spans.now c.args.listing c.text.ensures c.rows.ensures c.last.ensures in
    let all = at_start put refl (omega (arith, put.few)) in
    let same = put.same_reference in
    search (rules, all, same)
