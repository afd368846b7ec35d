-- What a try finds from what it is, and what it is from what it finds.
-- By the definition's cases. Assumes nothing.
use mathlib.Core.Path.{◌≡◌, refl, ap}
use mathlib.Core.List.{List}
use mathlib.Core.Bool.{Bool, true, false, cond}
use Prim.Native.Nat.{ℕ, ◌≤◌, ◌<◌}
use native.Mathlib.Omega.{arith}
use lib.Dec.{leb}
use borrow.Author.Tests.{leb-false, le-leb, lt-leb}
use Rattle.header_judge.specs.Head.{is_box}
use Rattle.region_rows.specs.declared.Span.{Span}
use Rattle.region_rows.specs.Rows.{with_span}
use Rattle.region_try.specs.Stops.{stop_by, bad_type_by}
use Rattle.region_try.specs.Tries.{Try, none, hit}
use Rattle.region_try.specs.Steps.{found}
use Rattle.region_try.specs.declared.stop.Stop.{Stop}
use Rattle.region_try.specs.declared.Found.{Found}
use Rattle.region_try.specs.declared.Found.TheVariants.{Nothing, NoRoom, Row}
use Rattle.region_try.proofs.Heads.{Stopped}

-- ---- what is found from the try

module _ (room rows : ℕ) (t : List ℕ) {v : Try} where
  pub finds_nothing : {stop : Stop} {type : ℕ} → Stopped v stop type → ◌≡◌ {A = List ℕ × Found} (t, Nothing stop type) (found room rows v t)
  unfolding found
  finds_nothing s = rw (s.is, s.why, s.bad)

  pub finds_no_room : {r : Span} → v ≡ hit r → room ≤ rows → ◌≡◌ {A = List ℕ × Found} (t, NoRoom) (found room rows v t)
  unfolding found
  finds_no_room e h = rw (e, le-leb room rows h)

  pub finds_row : {r : Span} → v ≡ hit r → rows < room
      → ◌≡◌ {A = List ℕ × Found} (with_span t rows r, Row r.held r.declared r.size (is_box r.word r.flags)) (found room rows v t)
  unfolding found
  finds_row e h = rw (e, lt-leb room rows h)

-- ---- the try from what was found

-- the try that a row comes from
pub record Hit (room rows : ℕ) (v : Try) (h d z : ℕ) (b : Bool) : Type 0 where
  pub row : Span
  pub is : v ≡ hit row
  pub held : h ≡ row.held
  pub declared : d ≡ row.declared
  pub size : z ≡ row.size
  pub boxed : b ≡ is_box row.word row.flags
  pub free : rows < room

nothing_apart : (stop : Stop) (type : ℕ) (f : Found) → Nothing stop type ≡ f → (f ≡ NoRoom → ⊥) × ((h d z : ℕ) (b : Bool) → f ≡ Row h d z b → ⊥)
nothing_apart stop type f e = (
  λ k. let z : ◌≡◌ {A = ℕ} 0 1 = cc in omega arith,
  λ h d z b k. let z : ◌≡◌ {A = ℕ} 0 1 = cc in omega arith,
)

row_apart : (h d z : ℕ) (b : Bool) → ((stop : Stop) (type : ℕ) → Row h d z b ≡ Nothing stop type → ⊥) × (Row h d z b ≡ NoRoom → ⊥)
row_apart h d z b = (
  λ stop type k. let z : ◌≡◌ {A = ℕ} 0 1 = cc in omega arith,
  λ k. let z : ◌≡◌ {A = ℕ} 0 1 = cc in omega arith,
)

row_parts : {h d z h₁ d₁ z₁ : ℕ} {b b₁ : Bool} → Row h d z b ≡ Row h₁ d₁ z₁ b₁ → (h ≡ h₁) × (d ≡ d₁) × (z ≡ z₁) × (b ≡ b₁)
row_parts e = (cc, cc, cc, cc)

nothing_parts : {stop stop₁ : Stop} {type type₁ : ℕ} → Nothing stop type ≡ Nothing stop₁ type₁ → (stop ≡ stop₁) × (type ≡ type₁)
nothing_parts e = (cc, cc)

module _ (room rows : ℕ) (t t₁ : List ℕ) where
  -- what a record finds, where there is room or not
  abbrev kind : Span → Bool → List ℕ × Found
  kind r full = cond full (t, NoRoom) (with_span t rows r, Row r.held r.declared r.size (is_box r.word r.flags))

  pub found_nothing : (stop : Stop) (type : ℕ) (v : Try) → ◌≡◌ {A = List ℕ × Found} (t₁, Nothing stop type) (found room rows v t) → Stopped v stop type
  unfolding found
  found_nothing stop type (none l o head) e =
      let q = nothing_parts (ap (λ (m : List ℕ × Found). m.1) e) in
      record { level = l; offset = o; head = head; is = refl; why = q.0; bad = q.1 }
  found_nothing stop type (hit r) e = absurd (by (leb room rows) (ap (λ (m : List ℕ × Found). m.1) e))
    where
      by : (full : Bool) → Nothing stop type ≡ (kind r full).1 → ⊥
      by true e = (nothing_apart stop type NoRoom e).0 refl
      by false e = (nothing_apart stop type (Row r.held r.declared r.size (is_box r.word r.flags)) e).1 r.held r.declared r.size (is_box r.word r.flags) refl

  pub found_row : (h d z : ℕ) (b : Bool) (v : Try) → ◌≡◌ {A = List ℕ × Found} (t₁, Row h d z b) (found room rows v t) → Hit room rows v h d z b
  unfolding found
  found_row h d z b (none l o head) e = absurd ((row_apart h d z b).0 (stop_by head) (bad_type_by head) (ap (λ (m : List ℕ × Found). m.1) e))
  found_row h d z b (hit r) e = by (leb room rows) refl (ap (λ (m : List ℕ × Found). m.1) e)
    where
      by : (full : Bool) → leb room rows ≡ full → Row h d z b ≡ (kind r full).1 → Hit room rows (hit r) h d z b
      by true f e = absurd ((row_apart h d z b).1 e)
      by false f e =
          let q = row_parts e in
          record { row = r; is = refl; held = q.0; declared = q.1; size = q.2; boxed = q.3; free = leb-false room rows f }
