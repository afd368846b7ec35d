-- Every listing of the table comes out as it is stated.
-- By computing the definitions. Assumes nothing.
use mathlib.Core.Path.{◌≡◌, refl}
use mathlib.Core.List.{map}
use Rattle.le.specs.Le.{le}
use Rattle.rules.specs.Rules.{rules_of, with_rules, flags_of, flags_small, valid_of}
use Rattle.header_judge.specs.Version.{word_of, ending_of}
use Rattle.header_judge.specs.Head.{declared_of, size_of, origin_of, head_with, head_of}
use Rattle.region_rows.specs.Rows.{flat, laid}
use Rattle.region_try.specs.Tries.{try_of, rows_found, onward, records, box_tries, region_tries}
use Rattle.region_try.specs.Whole.{keeps_whole, all_keep_whole}
use Rattle.region.specs.Listing.{shown}
use Rattle.cper_header.specs.Record.{starts_with, is_cper}
use Rattle.cper_sections.specs.Sections.{kept_from, kept_of}
use Rattle.cper_regions.specs.Regions.{regions_in, regions_of}
use Rattle.cper_regions.specs.Listing.{joined_tries, cper_walked, cper_listed}
use Rattle.cper_regions_laws.specs.Examples.{examples, computed, stated}

pub all_examples : map computed examples ≡ map stated examples
unfolding computed le rules_of with_rules flags_of flags_small valid_of word_of ending_of declared_of size_of origin_of head_with head_of try_of rows_found onward records box_tries region_tries keeps_whole all_keep_whole shown flat laid starts_with is_cper kept_from kept_of regions_in regions_of joined_tries cper_walked cper_listed
all_examples = refl
