-- The nested walk as the list of its tries, with no limit and no table (document 01, 'The nested listing'), and what stands where a region in it stops.
use Rattle.std.specs.Prelude.{ℕ, zero, suc, ◌+◌, ◌-◌, min, List, [], ◌∷◌, ◌++◌, cond, eqb, leb, length, take, drop, Ok, Err}
use Rattle.region_rows.specs.declared.Span.{Span}
use Rattle.region_rows.specs.Rows.{top}
use Rattle.header_judge.specs.declared.Summary.{Summary}
use Rattle.header_judge.specs.Head.{is_box, head_of, Head}
use Rattle.region_try.specs.Stops.{Standing, no_byte, header}

-- ---- one try

-- a try: where it finds no record, its region's level, its offset and the header that stands there; else the row of the record
pub data Try : Type 0 where
  none : ℕ → ℕ → Head → Try
  hit : Span → Try

-- how deep Boxes are opened
abbrev pub deepest : ℕ
deepest = 4

-- the row of a record from whose start on its region has so many bytes left, by what its header says
abbrev pub span_of : ℕ → ℕ → ℕ → ℕ → Summary → Span
span_of level parent offset left s =
    record {
      level = level;
      parent = parent;
      offset = offset;
      held = min s.declared left;
      declared = s.declared;
      size = s.size;
      word = s.word;
      socket = s.socket;
      die = s.die;
      flags = s.flags;
    }

-- the try at an offset where a header stands: ended, bad and declared size 0 are no record
unfoldable pub try_of : ℕ → ℕ → ℕ → ℕ → Head → Try
try_of level parent offset left (Err why) = none level offset (Err why)
try_of level parent offset left (Ok s) =
    cond (eqb s.declared 0) (none level offset (Ok s)) (hit (span_of level parent offset left s))

-- the rows that some tries find
unfoldable pub rows_found : List Try → List Span
rows_found [] = []
rows_found (none level offset head ∷ vs) = rows_found vs
rows_found (hit r ∷ vs) = r ∷ rows_found vs

-- what stands where a region of a level stops, by its tries and those inside its Boxes: the header of its own try that finds no record; else no byte
unfoldable pub stands_at : ℕ → List Try → Standing
stands_at l [] = no_byte
stands_at l (none level offset head ∷ vs) = cond (eqb level l) (header head) (stands_at l vs)
stands_at l (hit r ∷ vs) = stands_at l vs

-- ---- the tries of a region

-- the tries inside a Box: from its held bytes, its offset, its header's size and its row's number
abbrev pub Inside : Type 0
Inside = List ℕ → ℕ → ℕ → ℕ → List Try

-- the tries inside a record
abbrev pub within : Inside → List ℕ → Span → ℕ → List Try
within box held r row = cond (is_box r.word r.flags) (box held r.offset r.size row) []

-- the tries from one on, where n rows stand before it: where it finds no record, the region stops; else those inside the record,
-- and the rest, which is given the bytes to skip after this one and the rows before it
unfoldable pub onward : Inside → List ℕ → ℕ → Try → (ℕ → ℕ → List Try) → List Try
onward box bytes n (none level offset head) rest = none level offset head ∷ []
onward box bytes n (hit r) rest =
    hit r
    ∷ (within box (take r.declared bytes) r n
    ++ rest (r.declared - 1) (n + 1 + length (rows_found (within box (take r.declared bytes) r n))))

module _ (rules : List ℕ) where
  -- the tries in a region with so many levels left, after `skip` of its bytes; the others start at `offset`, and n rows stand before
  unfoldable pub records : Inside → ℕ → ℕ → ℕ → List ℕ → ℕ → ℕ → List Try
  records box levels parent skip [] offset n = []
  records box levels parent (suc k) (b ∷ bs) offset n = records box levels parent k bs (offset + 1) n
  records box levels parent zero (b ∷ bs) offset n =
      onward box (b ∷ bs) n (try_of (deepest - levels) parent offset (length (b ∷ bs)) (head_of rules (b ∷ bs)))
      (λ skip m. records box levels parent skip bs (offset + 1) m)

  -- the tries inside a Box whose region has so many levels left: it is opened where there is one and the header is held
  unfoldable pub box_tries : ℕ → Inside
  box_tries zero held offset size row = []
  box_tries (suc levels) held offset size row =
      cond (leb size (length held)) (records (box_tries levels) levels row 0 (drop size held) (offset + size) (row + 1)) []

  -- the tries in a region with so many levels left
  unfoldable pub region_tries : ℕ → List ℕ → ℕ → ℕ → ℕ → List Try
  region_tries levels bytes offset parent n = records (box_tries levels) levels parent 0 bytes offset n

-- the tries in the whole input
unfoldable pub all_tries : List ℕ → List ℕ → List Try
all_tries rules bytes = region_tries rules deepest bytes 0 top 0
