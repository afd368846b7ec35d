-- The rows of a region in a file, from those of the region alone (document 02, C-15): offsets in the whole file, parent rows within the joined listing.
use Rattle.std.specs.Prelude.{ℕ, ◌+◌, cond, List, [], ◌∷◌, ◌++◌, map, eqb, length}
use Rattle.region_rows.specs.declared.Span.{Span}
use Rattle.region_try.specs.Tries.{Try, none, hit}
use Rattle.region_laws.specs.Whole.{all_rows}
use Rattle.cper_regions.specs.Regions.{Region}

-- a row with another parent and offset
abbrev pub placed : ℕ → ℕ → Span → Span
placed parent offset r =
    record {
      level = r.level;
      parent = parent;
      offset = offset;
      held = r.held;
      declared = r.declared;
      size = r.size;
      word = r.word;
      socket = r.socket;
      die = r.die;
      flags = r.flags;
    }

-- a row of a region that starts at an offset
abbrev pub shifted : ℕ → Span → Span
shifted at r = placed r.parent (at + r.offset) r

-- and before which n rows stand; at level 0 there is no parent to number
abbrev pub moved : ℕ → ℕ → Span → Span
moved at n r = placed (cond (eqb r.level 0) r.parent (n + r.parent)) (at + r.offset) r

-- a try
unfoldable pub moved_try : ℕ → ℕ → Try → Try
moved_try at n (none level offset head) = none level (at + offset) head
moved_try at n (hit r) = hit (moved at n r)

-- the rows of some regions, one region after the other, where n rows stand before them
unfoldable pub joined_rows : List ℕ → List Region → ℕ → List Span
joined_rows rules [] n = []
joined_rows rules (g ∷ gs) n = map (moved g.offset n) (all_rows rules g.bytes) ++ joined_rows rules gs (n + length (all_rows rules g.bytes))
