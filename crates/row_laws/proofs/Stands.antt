-- The header that stands in the whole input at the offset of a row says what the row has.
-- A region's bytes from a try on begin those of the input from its offset on: by induction over the levels and the bytes. Assumes nothing.
use mathlib.Core.Path.{◌≡◌, refl, sym, ap, ◌∙◌}
use mathlib.Core.List.{List, [], ◌∷◌, ◌++◌, append-nil, append_assoc}
use mathlib.Core.Bool.{Bool, true, false, cond}
use Prim.Native.Nat.{ℕ, zero, suc, ◌+◌, ◌-◌, ◌≤◌}
use lib.Dec.{leb}
use lib.ListN.{length, take, drop, take-append-drop}
use lib.Seq.{drop-drop, drop-append-le}
use borrow.Author.Tests.{leb-true}
use Rattle.std.proofs.Common.{Ok}
use Rattle.header_judge.specs.Head.{is_box, head_of}
use Rattle.header_judge.proofs.Longer.{head_longer}
use Rattle.region_rows.specs.declared.Span.{Span}
use Rattle.region_rows.specs.Rows.{top}
use Rattle.region_try.specs.Tries.{Try, none, hit, try_of, deepest, rows_found, Inside, within, onward, records, box_tries, region_tries, all_tries}
use Rattle.region_try.proofs.Heads.{summary_in, hit_whence}
use Rattle.region_laws.specs.Clauses.{Every}

-- ---- what holds of each row that some tries find

module _ (P : Span → Type 0) where
  abbrev pub EachFound : List Try → Type 0
  EachFound vs = Every P (rows_found vs)

  found_both : (us vs : List Try) → EachFound us → EachFound vs → EachFound (us ++ vs)
  unfolding rows_found Every
  found_both [] vs p q = q
  found_both (none level offset head ∷ us) vs p q = found_both us vs p q
  found_both (hit r ∷ us) vs p q = (p.0, found_both us vs p.1 q)

module _ (rules input : List ℕ) where
  -- the header at a row's offset is that of the row
  abbrev pub Stands : Span → Type 0
  Stands r = head_of rules (drop r.offset input) ≡ Ok (summary_in r)

  abbrev AllStand : List Try → Type 0
  AllStand vs = EachFound Stands vs

  -- ---- bytes of the input

  -- some bytes stand in the input from an offset on
  abbrev Begin : List ℕ → ℕ → Type 0
  Begin bs offset = (rest : List ℕ) × (drop offset input ≡ bs ++ rest)

  begin_input : Begin input 0
  begin_input = ([], sym (append-nil input))

  begin_next : (b : ℕ) (bs : List ℕ) (offset : ℕ) → Begin (b ∷ bs) offset → Begin bs (offset + 1)
  begin_next b bs offset at = (at.0, sym (drop-drop 1 offset input) ∙ ap (drop 1) at.1)

  begin_held : (d : ℕ) (bs : List ℕ) (offset : ℕ) → Begin bs offset → Begin (take d bs) offset
  begin_held d bs offset at =
      (drop d bs ++ at.0, at.1 ∙ ap (λ (l : List ℕ). l ++ at.0) (sym (take-append-drop d bs)) ∙ append_assoc (take d bs) (drop d bs) at.0)

  begin_inside : (size : ℕ) (held : List ℕ) (offset : ℕ) → size ≤ length held → Begin held offset → Begin (drop size held) (offset + size)
  begin_inside size held offset h at =
      (at.0, sym (drop-drop size offset input) ∙ ap (drop size) at.1 ∙ drop-append-le size held at.0 h)

  -- a header in them is the input's
  head_begun : (bs : List ℕ) (r : Span) → Begin bs r.offset → head_of rules bs ≡ Ok (summary_in r) → Stands r
  head_begun bs r at e = ap (head_of rules) at.1 ∙ head_longer bs at.0 rules e

  -- ---- the tries

  abbrev Inner : Inside → Type 0
  Inner box = (held : List ℕ) (offset size row : ℕ) → Begin held offset → AllStand (box held offset size row)

  within_stand : (box : Inside) → Inner box → (held : List ℕ) (r : Span) (row : ℕ) → Begin held r.offset → AllStand (within box held r row)
  unfolding rows_found Every
  within_stand box inner held r row at = by (is_box r.word r.flags)
    where
      by : (b : Bool) → AllStand (cond b (box held r.offset r.size row) [])
      by true = inner held r.offset r.size row at
      by false = tt

  onward_stand : (box : Inside) → Inner box → (level parent offset : ℕ) (bs : List ℕ) (n : ℕ) (v : Try) (rest : ℕ → ℕ → List Try)
      → Begin bs offset → try_of level parent offset (length bs) (head_of rules bs) ≡ v → ((k m : ℕ) → AllStand (rest k m)) → AllStand (onward box bs n v rest)
  unfolding onward rows_found Every
  onward_stand box inner level parent offset bs n (none l o head) rest at e later = tt
  onward_stand box inner level parent offset bs n (hit r) rest at e later =
      let w = hit_whence level parent offset (length bs) (head_of rules bs) r e in
      let here : Begin bs r.offset = rw w.offset at in
      let held = take r.declared bs in
      let inside = within box held r n in (
        head_begun bs r here w.is,
        found_both Stands inside (rest (r.declared - 1) (n + 1 + length (rows_found inside)))
            (within_stand box inner held r n (begin_held r.declared bs r.offset here)) (later _ _),
      )

  records_stand : (box : Inside) → Inner box → (levels parent skip : ℕ) (bs : List ℕ) (offset n : ℕ) → Begin bs offset
      → AllStand (records rules box levels parent skip bs offset n)
  unfolding records rows_found Every
  records_stand box inner levels parent skip [] offset n at = tt
  records_stand box inner levels parent (suc k) (b ∷ bs) offset n at = records_stand box inner levels parent k bs (offset + 1) n (begin_next b bs offset at)
  records_stand box inner levels parent zero (b ∷ bs) offset n at =
      onward_stand box inner (deepest - levels) parent offset (b ∷ bs) n _ (λ k m. records rules box levels parent k bs (offset + 1) m) at refl
      (λ k m. records_stand box inner levels parent k bs (offset + 1) m (begin_next b bs offset at))

  box_stand : (levels : ℕ) → Inner (box_tries rules levels)
  unfolding box_tries rows_found Every
  box_stand zero held offset size row at = tt
  box_stand (suc l) held offset size row at = by (box_stand l) (leb size (length held)) refl
    where
      by : Inner (box_tries rules l) → (b : Bool) → leb size (length held) ≡ b
          → AllStand (cond b (records rules (box_tries rules l) l row 0 (drop size held) (offset + size) (row + 1)) [])
      by inner true e = records_stand (box_tries rules l) inner l row 0 (drop size held) (offset + size) (row + 1) (begin_inside size held offset (leb-true size (length held) e) at)
      by inner false e = tt

  -- of every row that the walk of the whole input finds
  pub all_stand : AllStand (all_tries rules input)
  unfolding all_tries region_tries
  all_stand = records_stand (box_tries rules deepest) (box_stand deepest) deepest top 0 input 0 0 begin_input
