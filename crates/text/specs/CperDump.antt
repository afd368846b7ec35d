-- What `dump_cper` prints of a CPER: the text of the listing of its Crash Log sections (document 02, C-15).
use Rattle.std.specs.Prelude.{ℕ, List, []}
use Rattle.cper_regions.specs.Regions.{crash_log_id}
use Rattle.cper_regions.specs.Listing.{cper_listed}
use Rattle.text.specs.Dump.{text_of_listing, empty_table}

-- five tries for every four bytes of the longest CPER
abbrev pub most_cper_tries : ℕ
most_cper_tries = 1310720

-- the rows that there is room for
abbrev pub most_cper_rows : ℕ
most_cper_rows = 4096

-- the text of a CPER, listed with no rules
unfoldable pub cper_dump_text : List ℕ → List ℕ
cper_dump_text cper = text_of_listing (cper_listed [] cper crash_log_id most_cper_tries (empty_table most_cper_rows))
