-- Every worked example of the table comes out as it is stated.
-- By computing the definitions. Assumes nothing.
use mathlib.Core.Path.{◌≡◌, refl}
use mathlib.Core.List.{map}
use Rattle.le.specs.Le.{le}
use Rattle.rules.specs.Rules.{rules_of, with_rules, flags_of, flags_small, valid_of}
use Rattle.layout.specs.Fields.{read_all}
use Rattle.header_judge.specs.Version.{word_of, ending_of}
use Rattle.header_judge.specs.Head.{declared_of, size_of, origin_of, head_with, head_of}
use Rattle.header.specs.Header.{numbers_of, judged_from, judged_of, decoded_of}
use Rattle.region_try.specs.Tries.{try_of, rows_found, stands_at, onward, records, box_tries, region_tries, all_tries}
use Rattle.region_rows.specs.Rows.{flat, laid}
use Rattle.region_try.specs.Whole.{keeps_whole, all_keep_whole}
use Rattle.region.specs.Listing.{shown, walked, listed}
use Rattle.worked_examples.specs.Examples.{examples, computed, stated}

pub all_examples : map computed examples ≡ map stated examples
unfolding computed le rules_of with_rules flags_of flags_small valid_of read_all word_of ending_of declared_of size_of origin_of head_with head_of numbers_of judged_from judged_of decoded_of try_of rows_found stands_at onward records box_tries region_tries all_tries keeps_whole all_keep_whole shown flat laid walked listed
all_examples = refl
