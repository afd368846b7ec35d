-- Every row of a listing, of a cut one too, has what a decode of the whole input from its offset on tells.
-- The header that stands there is the row's, and a decode agrees with one try. Assumes nothing.
use mathlib.Core.Path.{◌≡◌, refl, sym, ap, ◌∙◌}
use mathlib.Core.List.{List, [], ◌∷◌}
use mathlib.Core.Bool.{true}
use Prim.Native.Nat.{ℕ, zero, suc}
use lib.ListN.{drop}
use Rattle.std.proofs.Common.{Ok}
use Rattle.std.specs.Prelude.{Ok}
use Rattle.rules.specs.Rules.{valid_of}
use Rattle.header_judge.specs.Version.{word_of}
use Rattle.header_judge.specs.Head.{Head}
use Rattle.header_judge.specs.declared.Summary.{Summary}
use Rattle.header.specs.Header.{decoded_of}
use Rattle.header.specs.declared.Decoded.{Decoded}
use Rattle.header_laws.specs.Agree.{decoded_record, decoded_summary}
use Rattle.header_laws.proofs.Agree.{record_decoded, decoded_record_lem}
use Rattle.region_rows.specs.declared.Span.{Span}
use Rattle.region_rows.specs.Rows.{capacity, spans_in}
use Rattle.region_rows.proofs.Rows.{spans_laid}
use Rattle.region_try.specs.Tries.{Try, none, hit, rows_found, all_tries}
use Rattle.region_try.proofs.Heads.{summary_in}
use Rattle.region.specs.Listing.{shown, walked, listed}
use Rattle.region.specs.declared.Listing.{Listing}
use Rattle.region.proofs.Shows.{listed_cases}
use Rattle.region_laws.specs.Clauses.{Every, rows_of}
use Rattle.row_laws.specs.Decodes.{Decodes}
use Rattle.row_laws.proofs.Stands.{EachFound, Stands, all_stand}

same_summary : {s₁ s₂ : Summary} → ◌≡◌ {A = Head} (Ok s₁) (Ok s₂) → s₁ ≡ s₂
same_summary e = cc

-- a header that stands where a row says, decoded
stands_decodes : (rules bytes : List ℕ) → valid_of rules ≡ true → (r : Span) → Stands rules bytes r → Decodes rules bytes r
stands_decodes rules bytes valid r e =
    let bs = drop r.offset bytes in
    let read : Decoded = decoded_record bs (summary_in r) in
    let done : decoded_of rules bs ≡ Ok read = record_decoded rules bs valid e in
    let same : decoded_summary (word_of bs) read ≡ summary_in r = same_summary (sym (decoded_record_lem rules bs read done) ∙ e) in
    record {
      decoded = read;
      done = done;
      version = refl;
      flags = refl;
      declared = refl;
      size = refl;
      socket = ap (λ (s : Summary). s.socket) same;
      die = ap (λ (s : Summary). s.die) same;
    }

-- ---- the rows of a listing

-- what holds of each row that the tries find holds of each that is shown
each_shown : (P : Span → Type 0) (limit room : ℕ) (vs : List Try) → EachFound P vs → Every P (shown limit room vs).rows
unfolding shown rows_found Every
each_shown P limit room [] p = tt
each_shown P zero room (v ∷ vs) p = tt
each_shown P (suc limit) room (none level offset head ∷ vs) p = each_shown P limit room vs p
each_shown P (suc limit) zero (hit r ∷ vs) p = tt
each_shown P (suc limit) (suc room) (hit r ∷ vs) p = (p.0, each_shown P limit room vs p.1)

every_also : {P Q : Span → Type 0} → ((r : Span) → P r → Q r) → (rs : List Span) → Every P rs → Every Q rs
unfolding Every
every_also f [] p = tt
every_also f (r ∷ rs) p = (f r p.0, every_also f rs p.1)

pub rows_decode : (rules bytes : List ℕ) (limit : ℕ) (t : List ℕ) → Every (Decodes rules bytes) (rows_of (listed rules bytes limit t))
unfolding walked spans_in Every
rows_decode rules bytes limit t =
    listed_cases (λ (x : List ℕ × Listing). Every (Decodes rules bytes) (rows_of x)) rules bytes limit t tt tt
    (λ short valid.
    let rows = (shown limit (capacity t) (all_tries rules bytes)).rows in
    rw (spans_laid rows t)
    (every_also (stands_decodes rules bytes valid) rows (each_shown (Stands rules bytes) limit (capacity t) (all_tries rules bytes) (all_stand rules bytes))))
