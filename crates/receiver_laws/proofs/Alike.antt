-- Bytes that differ past their first 536 alone are alike to a walk that has none of them all in, also with a piece after them.
-- A header is decided by 536 bytes; so what follows the first record lies in the piece. Assumes nothing.
use mathlib.Core.Path.{◌≡◌, refl, sym, ap, subst, ◌∙◌}
use mathlib.Core.List.{List, [], ◌++◌}
use mathlib.Core.Logic.{⊎_elim}
use Prim.Native.Nat.{ℕ, ◌+◌, ◌-◌, ◌≤◌, ◌<◌}
use native.Mathlib.Omega.{arith}
use lib.ListN.{length, take, drop, length-append}
use lib.Seq.{take_all, take-append-le, drop-append-add}
use Rattle.basics.proofs.Orders.{le_or_lt}
use Rattle.header_judge.specs.Head.{head_of}
use Rattle.header_judge.proofs.Longer.{head_start}
use Rattle.region_rows.specs.declared.Span.{Span}
use Rattle.receiver.specs.Arrived.{top_tries, arrived}
use Rattle.receiver.specs.Calls.{most_kept}
use Rattle.receiver.proofs.Pieces.{ends_in_piece}
use Rattle.receiver.proofs.Arrived.{top_end, top_alone, Complete, arrived_hit, begins, waits_none, complete_alike, rest, rest_none, rest_hit}

pub record Alike (bs cs : List ℕ) : Type 0 where
  pub long : length bs ≡ length cs
  pub begin : take most_kept bs ≡ take most_kept cs

pub alike_refl : (bs : List ℕ) → Alike bs bs
alike_refl bs = record { long = refl; begin = refl }

alike_sym : {bs cs : List ℕ} → Alike bs cs → Alike cs bs
alike_sym like = record { long = sym like.long; begin = sym like.begin }

-- few bytes are the same
alike_few : (bs cs : List ℕ) → Alike bs cs → length bs ≤ most_kept → bs ≡ cs
alike_few bs cs like h = let long = like.long in sym (take_all most_kept bs h) ∙ like.begin ∙ take_all most_kept cs (omega arith)

-- something holds of bytes that are alike where it holds of the same, and of more than 536
by_length : (P : List ℕ → List ℕ → Type 0) → ((bs : List ℕ) → P bs bs) → (bs cs : List ℕ) → Alike bs cs → (most_kept < length bs → P bs cs) → P bs cs
by_length P same bs cs like many = ⊎_elim
    (λ (few : length bs ≤ most_kept). subst (λ (ds : List ℕ). P bs ds) (alike_few bs cs like few) (same bs))
    many
    (le_or_lt (length bs) most_kept)

alike_joined : (bs cs piece : List ℕ) → Alike bs cs → Alike (bs ++ piece) (cs ++ piece)
alike_joined bs cs piece like = by_length (λ xs ys. Alike (xs ++ piece) (ys ++ piece)) (λ xs. alike_refl (xs ++ piece)) bs cs like
    (λ many.
    let long = like.long in
    record {
      long = simp length-append (omega arith);
      begin = take-append-le most_kept bs piece (omega arith) ∙ like.begin ∙ sym (take-append-le most_kept cs piece (omega arith));
    })

module _ (rules : List ℕ) where
  alike_head : (bs cs : List ℕ) → Alike bs cs → head_of rules bs ≡ head_of rules cs
  alike_head bs cs like = by_length (λ xs ys. head_of rules xs ≡ head_of rules ys) (λ xs. refl) bs cs like
      (λ many. let long = like.long in head_start bs cs rules (omega arith) (omega arith) like.begin)

  alike_complete : (bs cs : List ℕ) (offset : ℕ) (r : Span) → Alike bs cs → Complete rules bs offset r → Complete rules cs offset r
  alike_complete bs cs offset r like c =
      let long = like.long in
      let enough = c.enough in
      complete_alike rules bs cs offset r (sym (alike_head bs cs like)) c (omega arith)

  alike_waits : (bs cs : List ℕ) (offset : ℕ) → Alike bs cs → arrived rules cs offset ≡ [] → arrived rules bs offset ≡ []
  alike_waits bs cs offset like waits = ⊎_elim
      (λ e. e)
      (λ found. absurd (waits_none rules cs offset found.0 waits (alike_complete bs cs offset found.0 like found.1)))
      (begins rules bs offset)

  -- the last tries
  pub alike_last : (bs cs : List ℕ) (offset : ℕ) → Alike bs cs → arrived rules cs offset ≡ [] → top_tries rules bs offset ≡ top_tries rules cs offset
  alike_last bs cs offset like waits =
      let long = like.long in
      ⊎_elim
      (λ (end : length cs ≤ 0). top_end rules bs offset (omega arith) ∙ sym (top_end rules cs offset end))
      (λ (some : 0 < length cs).
      top_alone rules bs offset (omega arith) (alike_waits bs cs offset like waits)
      ∙ rw (long, alike_head bs cs like) (sym (top_alone rules cs offset some waits)))
      (le_or_lt (length cs) 0)

  module _ (bs cs piece : List ℕ) (offset : ℕ) (like : Alike bs cs) (waits : arrived rules cs offset ≡ []) where
    both : Alike (bs ++ piece) (cs ++ piece)
    both = alike_joined bs cs piece like

    -- past a record that is all in with the piece
    alike_past : (r : Span) → Complete rules (cs ++ piece) offset r → drop r.declared (bs ++ piece) ≡ drop r.declared (cs ++ piece)
    alike_past r c = by_length (λ xs ys. drop r.declared (xs ++ piece) ≡ drop r.declared (ys ++ piece)) (λ xs. refl) bs cs like
        (λ many.
        let long = like.long in
        let short = ends_in_piece rules cs piece offset r (omega arith) waits c in
        in_piece bs long short ∙ sym (in_piece cs refl short))
      where
        in_piece : (xs : List ℕ) → length xs ≡ length cs → length cs < r.declared → drop r.declared (xs ++ piece) ≡ drop (r.declared - length cs) piece
        in_piece xs long h =
            let e : r.declared ≡ length xs + (r.declared - length cs) = omega arith in
            ap (λ (n : ℕ). drop n (xs ++ piece)) e ∙ drop-append-add xs piece (r.declared - length cs)

    -- what the piece settles, and what is left
    pub alike_settles : (arrived rules (bs ++ piece) offset ≡ arrived rules (cs ++ piece) offset) × Alike (rest rules (bs ++ piece) offset) (rest rules (cs ++ piece) offset)
    alike_settles = ⊎_elim
        (λ e.
        let f = alike_waits (cs ++ piece) (bs ++ piece) offset (alike_sym both) e in
        (e ∙ sym f, rw ((rest_none rules (bs ++ piece) offset e).0, (rest_none rules (cs ++ piece) offset f).0) both))
        (λ found.
        let r = found.0 in
        let c = found.1 in
        let d = alike_complete (bs ++ piece) (cs ++ piece) offset r both c in
        let past = alike_past r d in (
          arrived_hit rules (bs ++ piece) offset r c ∙ rw past (sym (arrived_hit rules (cs ++ piece) offset r d)),
          rw ((rest_hit rules (bs ++ piece) offset r c).0, (rest_hit rules (cs ++ piece) offset r d).0, past) (alike_refl _),
        ))
        (begins rules (bs ++ piece) offset)
