-- What a C caller gets of a listing: the table, the numbers told and the answer's number.
use Rattle.std.specs.Prelude.{ℕ, List}
use Rattle.region.specs.Listing.{number_of, listing_told}
use Rattle.region.specs.declared.Listing.{Listing}

-- the numbers told and the answer's
abbrev pub numbers_out : Listing → List ℕ × ℕ
numbers_out l = (listing_told l, number_of l.answer)

-- and the table before them
abbrev pub listing_out : List ℕ × Listing → List ℕ × (List ℕ × ℕ)
listing_out end = (end.0, numbers_out end.1)
