-- How far the walk of a region comes by its own records, what stands there, and with which answers that is told of the top region
-- (document 02, C-12).
use Rattle.std.specs.Prelude.{ℕ, zero, suc, ◌-◌, List, [], ◌∷◌, Bool, ◌&&◌, ◌||◌, eqb, leb, drop}
use Rattle.header_judge.specs.Head.{head_of, Head}
use Rattle.region_try.specs.Stops.{Standing, no_byte, header}
use Rattle.region_laws.specs.Nested.{by_head}

-- how far the walk comes from a header on: nowhere where the region stops; else past this byte and as far as the rest, which is given the bytes to skip
abbrev pub onto : Head → (ℕ → ℕ) → ℕ
onto head rest = by_head head 0 (λ s. suc (rest (s.declared - 1)))

module _ (rules : List ℕ) where
  -- how far it comes in a region, after `skip` of its bytes; the last record may reach past the end
  unfoldable pub reach : ℕ → List ℕ → ℕ
  reach skip [] = skip
  reach (suc k) (b ∷ bs) = suc (reach k bs)
  reach zero (b ∷ bs) = onto (head_of rules (b ∷ bs)) (λ skip. reach skip bs)

  -- the position at which a region stops
  abbrev pub position : List ℕ → ℕ
  position bytes = reach 0 bytes

  -- what stands at the start of some bytes
  abbrev pub standing_in : List ℕ → Standing
  standing_in [] = no_byte
  standing_in (b ∷ bs) = header (head_of rules (b ∷ bs))

  -- what stands where a region stops
  abbrev pub standing_last : List ℕ → Standing
  standing_last bytes = standing_in (drop (position bytes) bytes)

-- the answers with which a reason is told: 0, and 3 to 5
abbrev pub tells : ℕ → Bool
tells answer = eqb answer 0 || (leb 3 answer && leb answer 5)
