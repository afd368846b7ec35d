-- `dump` puts the text of the listing at the start of the buffer, which has room for 512 rows.
-- The listing and its table are the definition's. Assumes nothing.
use Rattle.text.specs.Dump.{empty_table, dump_text}
use Rattle.text.proofs.dump.Goals as goal

pub returns : goal.returns
unfolding dump_text empty_table
returns c = rw c.listing_of-listing.ensures.result_after at c.put_listing.ensures
