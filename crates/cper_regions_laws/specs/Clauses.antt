-- `whole` of a CPER's listing in document 02's words (C-14, C-15).
use Rattle.std.specs.Prelude.{List, ℕ}
use Rattle.region.specs.declared.Listing.{Listing}
use Rattle.region_laws.specs.Clauses.{Every, Answered, KeepsWhole}
use Rattle.cper_regions.specs.Regions.{regions_of}

-- the answer is 0, and every region walked meets the other clauses by itself, those without a record too
pub record IsWhole (rules cper id : List ℕ) (end : List ℕ × Listing) : Type 0 where
  pub answered : Answered end
  pub regions : Every (λ g. KeepsWhole rules g.bytes) (regions_of cper id)
