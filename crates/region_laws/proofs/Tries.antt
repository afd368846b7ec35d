-- What a try limit leaves of any tries: the whole listing where it is no smaller than their number, else exactly the first of them and their rows.
-- From what is shown of them. Assumes nothing.
use mathlib.Core.Path.{◌≡◌, ap, ◌∙◌}
use mathlib.Core.List.{List}
use mathlib.Core.Logic.{⊎_elim}
use Prim.Native.Nat.{ℕ, ◌≤◌, ◌<◌, min}
use native.Mathlib.Omega.{arith}
use lib.ListN.{length, take}
use Rattle.basics.proofs.Orders.{le_or_lt}
use Rattle.region_rows.specs.declared.Span.{Span}
use Rattle.region_rows.specs.Rows.{laid}
use Rattle.region_try.specs.Stops.{Standing}
use Rattle.region_try.specs.Tries.{Try, rows_found}
use Rattle.region.specs.Listing.{Shown, number_of, shown, tries_showing}
use Rattle.region.specs.declared.Listing.{Listing}
use Rattle.region_laws.specs.Whole.{rows_first, all_shown, first_shown}
use Rattle.region_laws.proofs.Shown.{tries_le_limit, rows_shown, all_shown_lem, cut_shown, rows_le}

-- the listing under each limit of some tries, made at so many positions, into a table of which so many rows are used
pub record Lists (standing : Standing) (vs : List Try) (positions room : ℕ) (t : List ℕ) (list : ℕ → List ℕ × Listing) : Type 0 where
  pub made : length vs ≡ positions
  pub shows : (limit : ℕ) → list limit ≡ tries_showing standing vs t (shown limit room vs)

module _ {standing : Standing} {vs : List Try} {positions room : ℕ} {t : List ℕ} {list : ℕ → List ℕ × Listing} (is : Lists standing vs positions room t list) where
  -- ---- for any room

  -- so many of the rows that the first tries find as there is room for
  pub rows_by_limit : (limit : ℕ) → (list limit).0 ≡ laid (take room (rows_first limit vs)) t
  rows_by_limit limit = ap (λ (x : List ℕ × Listing). x.0) (is.shows limit) ∙ ap (λ (rs : List Span). laid rs t) (rows_shown limit room vs)

  pub row_count_by_limit : (limit : ℕ) → (list limit).1.rows ≡ length (take room (rows_first limit vs))
  row_count_by_limit limit = ap (λ (x : List ℕ × Listing). x.1.rows) (is.shows limit) ∙ ap (λ (rs : List Span). length rs) (rows_shown limit room vs)

  pub tries_within_limit : (limit : ℕ) → (list limit).1.tries ≤ limit
  tries_within_limit limit = rw (is.shows limit) (tries_le_limit limit room vs)

  -- ---- with room for every row

  module _ (roomy : length (rows_found vs) ≤ room) (limit : ℕ) where
    -- a limit no smaller than the number of positions
    pub whole_listing_lem : positions ≤ limit → list limit ≡ tries_showing standing vs t (all_shown positions vs)
    whole_listing_lem h =
        let n : length vs ≡ positions = is.made in
        is.shows limit ∙ ap (λ (s : Shown). tries_showing standing vs t s) (all_shown_lem limit room vs (omega arith) roomy) ∙ rw n

    -- a smaller one
    pub cut_listing_lem : limit < positions → list limit ≡ tries_showing standing vs t (first_shown limit vs)
    cut_listing_lem h =
        let n : length vs ≡ positions = is.made in
        is.shows limit ∙ ap (λ (s : Shown). tries_showing standing vs t s) (cut_shown limit room vs (omega arith) roomy)

    pub cut_answer : limit < positions → number_of (list limit).1.answer ≡ 7
    cut_answer h = rw (cut_listing_lem h)

    -- the tries reported are the positions, unless the limit cuts them
    pub tries_reported : (list limit).1.tries ≡ min limit positions
    tries_reported =
        ⊎_elim
        (λ (h : positions ≤ limit). ap (λ (x : List ℕ × Listing). x.1.tries) (whole_listing_lem h) ∙ omega arith)
        (λ (h : limit < positions). ap (λ (x : List ℕ × Listing). x.1.tries) (cut_listing_lem h) ∙ omega arith)
        (le_or_lt positions limit)

  -- so many tries and rows as there are positions at most are always enough
  pub most_enough : (most : ℕ) → positions ≤ most → (limit : ℕ) → most ≤ limit → most ≤ room → list limit ≡ tries_showing standing vs t (all_shown positions vs)
  most_enough most b limit h g =
      let n : length vs ≡ positions = is.made in
      let r : length (rows_found vs) ≤ length vs = rows_le vs in
      whole_listing_lem (omega arith) limit (omega arith)
