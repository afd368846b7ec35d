-- `dump_cper` puts the text of the listing at the start of the buffer, which has room for 4,096 rows.
-- The listing and its table are the definition's. Assumes nothing.
use Rattle.text.specs.Dump.{empty_table}
use Rattle.text.specs.CperDump.{cper_dump_text}
use Rattle.text.proofs.dump_cper.Goals as goal

pub returns : goal.returns
unfolding cper_dump_text empty_table
returns c = rw c.list_cper-listing.ensures.result_after at c.put_listing.ensures
