-- The listing of a CPER as a function of its bytes, the identifier, the rules, the limit and the table (document 02, C-15).
use Rattle.std.specs.Prelude.{ℕ, ◌+◌, min, List, [], ◌∷◌, ◌++◌, cond, ltb, length}
use Rattle.answers.specs.Numbers.{most_bytes}
use Rattle.rules.specs.Rules.{valid_of}
use Rattle.region_rows.specs.Rows.{top, capacity, most_rows}
use Rattle.region_try.specs.Stops.{unknown}
use Rattle.region_try.specs.Tries.{Try, deepest, rows_found, region_tries}
use Rattle.region.specs.Listing.{shown, refusal, tries_showing}
use Rattle.region.specs.declared.Answer.TheVariants.{TooLong, BadRules, NotCper}
use Rattle.region.specs.declared.Listing.{Listing}
use Rattle.cper_header.specs.Record.{is_cper}
use Rattle.cper_regions.specs.Regions.{Region, regions_of}

-- the tries in a region of a file, from level 0 on, where n rows stand before it
abbrev pub tries_in : List ℕ → Region → ℕ → List Try
tries_in rules g n = region_tries rules deepest g.bytes g.offset top n

-- the tries in some regions, one after the other
unfoldable pub joined_tries : List ℕ → List Region → ℕ → List Try
joined_tries rules [] n = []
joined_tries rules (g ∷ gs) n = tries_in rules g n ++ joined_tries rules gs (n + length (rows_found (tries_in rules g n)))

-- the tries in all regions of a CPER
abbrev pub cper_tries : List ℕ → List ℕ → List ℕ → List Try
cper_tries rules cper id = joined_tries rules (regions_of cper id) 0

-- the rows of a table that are used
abbrev pub room : List ℕ → ℕ
room t = min (capacity t) most_rows

-- the table and the listing at the end, where nothing is refused; no region's stop is told
unfoldable pub cper_walked : List ℕ → List ℕ → List ℕ → ℕ → List ℕ → List ℕ × Listing
cper_walked rules cper id limit t = tries_showing unknown (cper_tries rules cper id) t (shown limit (room t) (cper_tries rules cper id))

-- the table and the listing at the end; the length is judged first, then the rules, then the CPER's header
unfoldable pub cper_listed : List ℕ → List ℕ → List ℕ → ℕ → List ℕ → List ℕ × Listing
cper_listed rules cper id limit t =
    cond (ltb most_bytes (length cper)) (t, refusal TooLong)
    (cond (valid_of rules) (cond (is_cper cper) (cper_walked rules cper id limit t) (t, refusal NotCper)) (t, refusal BadRules))
