-- The try of a header from the header's parts, as the code finds them, and what a try says of its header.
-- By the tests of the definition, in its order. Assumes nothing.
use mathlib.Core.Path.{◌≡◌, refl}
use mathlib.Core.List.{List}
use mathlib.Core.Bool.{Bool, true, false, cond}
use Prim.Native.Nat.{ℕ, ◌<◌, min}
use native.Mathlib.Omega.{arith}
use lib.Dec.{eqb}
use lib.ListN.{length}
use borrow.Author.Tests.{eq-eqb, ne_eqb, eqb-false}
use Rattle.std.proofs.Common.{Ok, Err}
use Rattle.header_judge.specs.Version.{no_word, ending_of}
use Rattle.header_judge.specs.Head.{size_of, declared_of, summary_of, Complete, Head}
use Rattle.header_judge.specs.declared.Summary.{Summary}
use Rattle.header_judge.specs.declared.NoRecord.{NoRecord}
use Rattle.header_judge.specs.declared.NoRecord.TheVariants.{Ended}
use Rattle.header_judge.proofs.Heads.{head_ended, head_none, head_record}
use Rattle.region_rows.specs.declared.Span.{Span}
use Rattle.region_try.specs.Stops.{stop_ended, stop_by, bad_type_by}
use Rattle.region_try.specs.Tries.{Try, span_of, none, hit, try_of}
use Rattle.region_try.specs.Steps.{try_at}
use Rattle.region_try.specs.declared.stop.Stop.{Stop}

-- a try that finds no record, the reason and the bad type that it gives
pub record Stopped (v : Try) (stop : Stop) (type : ℕ) : Type 0 where
  pub level : ℕ
  pub offset : ℕ
  pub head : Head
  pub is : v ≡ none level offset head
  pub why : stop ≡ stop_by head
  pub bad : type ≡ bad_type_by head

pub stopped : (level offset : ℕ) (head : Head) → Stopped (none level offset head) (stop_by head) (bad_type_by head)
stopped level offset head = record { level = level; offset = offset; head = head; is = refl; why = refl; bad = refl }

module _ (level parent offset : ℕ) (bs : List ℕ) (word flags : ℕ) where
  abbrev this : Try
  this = try_at level parent offset bs word flags

  pub ended_stops : word ≡ no_word → Stopped this (stop_ended (ending_of bs)) 0
  unfolding try_of
  ended_stops e = rw (head_ended bs word flags e) (stopped level offset (Err (Ended (ending_of bs))))

  pub none_stops : (word ≡ no_word → ⊥) → {why : NoRecord} → size_of bs word flags ≡ Err why → Stopped this (stop_by (Err why)) (bad_type_by (Err why))
  unfolding try_of
  none_stops f {why} e = rw (head_none bs word flags f e) (stopped level offset (Err why))

  pub empty_stops : (word ≡ no_word → ⊥) → Complete bs word flags → declared_of bs flags ≡ 0 → Stopped this Stop.SizeZero 0
  unfolding try_of
  empty_stops f h e = rw (head_record bs word flags f h, eq-eqb _ _ e) (stopped level offset (Ok (summary_of bs word flags)))

  pub record_hit : (word ≡ no_word → ⊥) → Complete bs word flags → (declared_of bs flags ≡ 0 → ⊥)
      → this ≡ hit (span_of level parent offset (length bs) (summary_of bs word flags))
  unfolding try_of
  record_hit f h g = rw (head_record bs word flags f h, ne_eqb _ _ g)

-- what the header of a row's record says
abbrev pub summary_in : Span → Summary
summary_in r = record { word = r.word; flags = r.flags; declared = r.declared; size = r.size; socket = r.socket; die = r.die }

-- what the row of a record says of its header and its place
pub record Whence (depth at left : ℕ) (head : Head) (r : Span) : Type 0 where
  pub level : r.level ≡ depth
  pub is : head ≡ Ok (summary_in r)
  pub offset : r.offset ≡ at
  pub some : 0 < r.declared
  pub held : r.held ≡ min r.declared left

pub hit_whence : (level parent offset left : ℕ) (head : Head) (r : Span) → try_of level parent offset left head ≡ hit r → Whence level offset left head r
unfolding try_of
hit_whence level parent offset left (Err why) r e = absurd (let z : ◌≡◌ {A = ℕ} 0 1 = cc in omega arith)
hit_whence level parent offset left (Ok s) r e = by (eqb s.declared 0) refl e
  where
    by : (b : Bool) → eqb s.declared 0 ≡ b → cond b (none level offset (Ok s)) (hit (span_of level parent offset left s)) ≡ hit r
        → Whence level offset left (Ok s) r
    by true k e = absurd (let z : ◌≡◌ {A = ℕ} 0 1 = cc in omega arith)
    by false k e =
        let q : span_of level parent offset left s ≡ r = cc in
        let d : s.declared ≡ 0 → ⊥ = eqb-false s.declared 0 k in
        rw (← q) (record { level = refl; is = refl; offset = refl; some = omega arith; held = refl })

-- a try without a record has the level of its region
pub none_level : (level parent offset left : ℕ) (head : Head) {l o : ℕ} {h : Head} → try_of level parent offset left head ≡ none l o h → l ≡ level
unfolding try_of
none_level level parent offset left (Err why) e = cc
none_level level parent offset left (Ok s) e = by (eqb s.declared 0) e
  where
    by : (b : Bool) {l o : ℕ} {h : Head} → cond b (none level offset (Ok s)) (hit (span_of level parent offset left s)) ≡ none l o h → l ≡ level
    by true e = cc
    by false e = absurd (let z : ◌≡◌ {A = ℕ} 0 1 = cc in omega arith)
