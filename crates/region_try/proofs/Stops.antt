-- What stands where a region stops, read off its tries: at none, at the one that finds no record, and past what stands inside its Boxes.
-- By induction over the levels, and over the bytes within a level: each try inside a Box is of a deeper level. Assumes nothing.
use mathlib.Core.Path.{◌≡◌, refl, ap, sym, ◌∙◌}
use mathlib.Core.List.{List, [], ◌∷◌, ◌++◌, append_assoc}
use mathlib.Core.Bool.{Bool, true, false, cond}
use Prim.Native.Nat.{ℕ, zero, suc, ◌+◌, ◌-◌, ◌≤◌}
use native.Mathlib.Omega.{arith}
use lib.Dec.{leb}
use lib.ListN.{length, take, drop}
use borrow.Author.Tests.{eq-eqb, ne_eqb}
use Rattle.header_judge.specs.Version.{ending_number}
use Rattle.header_judge.specs.Head.{is_box, head_of, Head}
use Rattle.header_judge.specs.declared.version.Ending.{Ending}
use Rattle.header_judge.specs.declared.version.Ending.TheVariants.{ZeroWord, DeadbeefWord, FewBytes}
use Rattle.region_rows.specs.declared.Span.{Span}
use Rattle.region_try.specs.Stops.{unknown, no_byte, header, standing_told, stop_ended, stop_number}
use Rattle.region_try.specs.Tries.{Try, none, hit, try_of, deepest, rows_found, stands_at, Inside, within, onward, records, box_tries}
use Rattle.region_try.specs.declared.Cut.{Cut}
use Rattle.region_try.specs.declared.Cut.TheVariants.{Going, Full, Spent}
use Rattle.region_try.proofs.Heads.{none_level}

-- of what is unknown nothing is told
pub told_unknown : (cut : Cut) → standing_told cut unknown ≡ unknown
told_unknown Going = refl
told_unknown Full = refl
told_unknown Spent = refl

-- ---- where a region stops

pub stands_none : (l : ℕ) → stands_at l [] ≡ no_byte
unfolding stands_at
stands_none l = refl

pub stands_hit : (l : ℕ) (r : Span) (vs : List Try) → stands_at l (hit r ∷ vs) ≡ stands_at l vs
unfolding stands_at
stands_hit l r vs = refl

-- the region's own try without a record
pub stands_here : (level parent offset left : ℕ) (head : Head) {l o : ℕ} {h : Head} (vs : List Try)
    → try_of level parent offset left head ≡ none l o h → stands_at level (try_of level parent offset left head ∷ vs) ≡ header h
unfolding stands_at
stands_here level parent offset left head {l} vs e = rw (e, eq-eqb l level (none_level level parent offset left head e))

-- one of another level
pub stands_past : (l : ℕ) {level offset : ℕ} {head : Head} {v : Try} (vs : List Try) → v ≡ none level offset head → (level ≡ l → ⊥) → stands_at l (v ∷ vs) ≡ stands_at l vs
unfolding stands_at
stands_past l {level} vs e f = rw (e, ne_eqb level l f)

-- ---- inside a Box

-- tries that have no say in what stands where a level stops
abbrev Past : ℕ → List Try → Type 0
Past l us = (vs : List Try) → stands_at l (us ++ vs) ≡ stands_at l vs

abbrev PastBox : ℕ → Inside → Type 0
PastBox l box = (held : List ℕ) (offset size row : ℕ) → Past l (box held offset size row)

past_none : (l : ℕ) → Past l []
past_none l vs = refl

pub past_within : (l : ℕ) (box : Inside) → PastBox l box → (held : List ℕ) (r : Span) (row : ℕ) → Past l (within box held r row)
past_within l box past held r row = by (is_box r.word r.flags)
  where
    by : (b : Bool) → Past l (cond b (box held r.offset r.size row) [])
    by true = past held r.offset r.size row
    by false = past_none l

module _ (rules : List ℕ) where
  past_onward : (l : ℕ) (box : Inside) → PastBox l box → (level parent offset : ℕ) → (level ≡ l → ⊥) → (bs : List ℕ) (n : ℕ) (v : Try) (rest : ℕ → ℕ → List Try)
      → try_of level parent offset (length bs) (head_of rules bs) ≡ v → ((k m : ℕ) → Past l (rest k m)) → Past l (onward box bs n v rest)
  unfolding onward stands_at
  past_onward l box past level parent offset f bs n (none k o head) rest e g vs =
      let same : k ≡ level = none_level level parent offset (length bs) (head_of rules bs) e in
      rw (ne_eqb k l (λ z. f (sym same ∙ z)))
  past_onward l box past level parent offset f bs n (hit r) rest e g vs =
      let inner = within box (take r.declared bs) r n in
      let after = rest (r.declared - 1) (n + 1 + length (rows_found inner)) in
      ap (stands_at l) (append_assoc inner after vs)
      ∙ past_within l box past (take r.declared bs) r n (after ++ vs)
      ∙ g (r.declared - 1) (n + 1 + length (rows_found inner)) vs

  past_records : (l : ℕ) (box : Inside) → PastBox l box → (levels parent skip : ℕ) → (deepest - levels ≡ l → ⊥) → (bs : List ℕ) (offset n : ℕ)
      → Past l (records rules box levels parent skip bs offset n)
  unfolding records
  past_records l box past levels parent skip f [] offset n = past_none l
  past_records l box past levels parent (suc k) f (b ∷ bs) offset n = past_records l box past levels parent k f bs (offset + 1) n
  past_records l box past levels parent zero f (b ∷ bs) offset n =
      past_onward l box past (deepest - levels) parent offset f (b ∷ bs) n _ (λ k m. records rules box levels parent k bs (offset + 1) m) refl
      (λ k m. past_records l box past levels parent k f bs (offset + 1) m)

  -- nor have those inside a Box, for its region and each around it
  pub past_box : (levels l : ℕ) → levels ≤ deepest → l ≤ deepest - levels → PastBox l (box_tries rules levels)
  unfolding box_tries
  past_box zero l h g held offset size row = past_none l
  past_box (suc k) l h g held offset size row = by (past_box k l (omega arith) (omega arith)) (leb size (length held))
    where
      deeper : deepest - k ≡ l → ⊥
      deeper e = omega arith

      by : PastBox l (box_tries rules k) → (b : Bool) → Past l (cond b (records rules (box_tries rules k) k row 0 (drop size held) (offset + size) (row + 1)) [])
      by past true = past_records l (box_tries rules k) past k row 0 deeper (drop size held) (offset + size) (row + 1)
      by past false = past_none l

-- ---- numbers

-- an ending has one number, as a header's and as a region's
pub ending_number_lem : (ending : Ending) → stop_number (stop_ended ending) ≡ ending_number ending
ending_number_lem ZeroWord = refl
ending_number_lem DeadbeefWord = refl
ending_number_lem FewBytes = refl
