-- A listing is whole exactly when the answer is 0 and every region walked keeps it whole.
-- A moved try keeps whole as the unmoved does; then by induction over the regions. Assumes nothing.
use mathlib.Core.Path.{◌≡◌, refl, ap, sym, ◌∙◌}
use mathlib.Core.List.{List, [], ◌∷◌, ◌++◌}
use mathlib.Core.Bool.{Bool, true, ◌&&◌, and_assoc}
use mathlib.Core.Logic.{◌↔◌}
use Prim.Native.Nat.{ℕ, ◌+◌, ◌<◌}
use native.Mathlib.Omega.{arith}
use lib.ListN.{length}
use Rattle.basics.proofs.Bools.{both}
use Rattle.region_try.specs.Tries.{Try, none, hit, rows_found, all_tries}
use Rattle.region_try.specs.Whole.{keeps_whole, all_keep_whole}
use Rattle.region.specs.Listing.{number_of, shown, refusal}
use Rattle.region.specs.declared.Answer.{Answer}
use Rattle.region.specs.declared.Answer.TheVariants.{TooLong, BadRules, NotCper}
use Rattle.region.specs.declared.Listing.{Listing}
use Rattle.region_laws.specs.Clauses.{Every, KeepsWhole}
use Rattle.region_laws.proofs.Clauses.{whole_by, keeps_exactly}
use Rattle.cper_regions.specs.Regions.{Region, regions_of}
use Rattle.cper_regions.specs.Listing.{tries_in, joined_tries, cper_tries, room, cper_listed}
use Rattle.cper_regions_laws.specs.Whole.{showing}
use Rattle.cper_regions_laws.specs.Clauses.{IsWhole}
use Rattle.cper_regions_laws.specs.Moved.{moved_try}
use Rattle.cper_regions_laws.proofs.Refusals.{listed_cases}
use Rattle.cper_regions_laws.proofs.Moved.{moved_tries, region_moved}

keep_append : (us vs : List Try) → all_keep_whole (us ++ vs) ≡ (all_keep_whole us && all_keep_whole vs)
unfolding all_keep_whole
keep_append [] vs = refl
keep_append (u ∷ us) vs = ap (λ (b : Bool). keeps_whole u && b) (keep_append us vs) ∙ sym (and_assoc (keeps_whole u) (all_keep_whole us) (all_keep_whole vs))

pub keep_moved : (o n : ℕ) (vs : List Try) → all_keep_whole (moved_tries o n vs) ≡ all_keep_whole vs
unfolding all_keep_whole keeps_whole moved_try
keep_moved o n [] = refl
keep_moved o n (none l at head ∷ vs) = ap (λ (b : Bool). keeps_whole (none l at head) && b) (keep_moved o n vs)
keep_moved o n (hit r ∷ vs) = ap (λ (b : Bool). keeps_whole (hit r) && b) (keep_moved o n vs)

module _ (rules : List ℕ) where
  -- the first of some regions, and the others
  joined_keep : (g : Region) (gs : List Region) (n : ℕ)
      → all_keep_whole (joined_tries rules (g ∷ gs) n) ≡ (all_keep_whole (all_tries rules g.bytes) && all_keep_whole (joined_tries rules gs (n + length (rows_found (tries_in rules g n)))))
  unfolding joined_tries
  joined_keep g gs n =
      keep_append (tries_in rules g n) (joined_tries rules gs (n + length (rows_found (tries_in rules g n))))
      ∙ ap (λ (b : Bool). b && all_keep_whole (joined_tries rules gs (n + length (rows_found (tries_in rules g n)))))
      (ap all_keep_whole (region_moved g.offset n rules g.bytes) ∙ keep_moved g.offset n (all_tries rules g.bytes))

  joined_exactly : (gs : List Region) (n : ℕ) → (all_keep_whole (joined_tries rules gs n) ≡ true) ↔ Every (λ g. KeepsWhole rules g.bytes) gs
  unfolding joined_tries all_keep_whole Every
  joined_exactly [] n = (λ e. tt, λ e. refl)
  joined_exactly (g ∷ gs) n =
      let m = n + length (rows_found (tries_in rules g n)) in
      let first = keeps_exactly rules g.bytes in
      let rest = joined_exactly gs m in (
        λ e.
            let q = both (all_keep_whole (all_tries rules g.bytes)) (all_keep_whole (joined_tries rules gs m)) (sym (joined_keep g gs n) ∙ e) in
            (first.0 q.0, rest.0 q.1),
        λ q. joined_keep g gs n ∙ rw (first.1 q.0, rest.1 q.1),
      )

module _ (rules cper id : List ℕ) (limit : ℕ) (t : List ℕ) where
  refused : (answer : Answer) → 0 < number_of answer → ((refusal answer).whole ≡ true) ↔ IsWhole rules cper id (t, refusal answer)
  refused answer h = (λ e. absurd (let z : ◌≡◌ {A = ℕ} 0 1 = cc in omega arith), λ x. absurd (let a = x.answered in omega arith))

  -- document 02, C-14 and C-15
  pub whole_exactly : ((cper_listed rules cper id limit t).1.whole ≡ true) ↔ IsWhole rules cper id (cper_listed rules cper id limit t)
  whole_exactly =
      listed_cases rules cper id limit t (λ (x : List ℕ × Listing). (x.1.whole ≡ true) ↔ IsWhole rules cper id x)
      (refused TooLong (omega arith)) (refused BadRules (omega arith)) (refused NotCper (omega arith))
      (λ ok.
      let tries = cper_tries rules cper id in
      let answer = (showing rules cper id t (shown limit (room t) tries)).1.answer in
      let regions = joined_exactly rules (regions_of cper id) 0 in (
        λ w. let q = (whole_by answer tries).0 w in record { answered = q.0; regions = regions.0 q.1 },
        λ x. (whole_by answer tries).1 (x.answered, regions.1 x.regions),
      ))
