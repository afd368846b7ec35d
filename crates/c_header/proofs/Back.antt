-- What is given to C is taken back from C as it was.
-- Layout for layout; a yes/no comes back from its number. Assumes nothing.
use mathlib.Core.Path.{◌≡◌, refl, ap, ap₂, ◌∙◌}
use mathlib.Core.Bool.{Bool, true, false, not, ◌&&◌, ◌||◌}
use lib.Dec.{leb}
use Rattle.std.specs.Prelude.{Some, option_map}
use Rattle.std.specs.Int.{from_bool}
use Rattle.header.specs.declared.Header.{Header}
use Rattle.header.specs.declared.Status.{Status}
use Rattle.header.specs.declared.HeaderType.{HeaderType}
use Rattle.header.specs.declared.HeaderType.TheVariants.{Type0, Type1, Type2, Type3, Type4, Type5, Type6, Type0LegacyServer, Type0LegacyGpu}
use Rattle.c_header.specs.Header.{yes, fields_of, flat, header_out, has_complete, sound, fields_in, type_of, header_in, taken_of}

yes_no_lem : (b : Bool) → yes (from_bool b) ≡ b
yes_no_lem true = refl
yes_no_lem false = refl

small : (b : Bool) → leb (from_bool b) 1 ≡ true
small true = refl
small false = refl

sound_out : (h : Header) (t : HeaderType) → sound (flat h (fields_of t)) ≡ true
unfolding sound
sound_out h t = rw (small h.version.cldic, small h.version.consumed) (by t)
  where
    by : (t : HeaderType) → leb (fields_of t).layout 8 && (not (has_complete (fields_of t).layout) || leb (from_bool (fields_of t).status.collection_complete) 1) ≡ true
    by Type0 = refl
    by Type1 = refl
    by (Type2 p) = refl
    by (Type3 p s) = small s.collection_complete
    by (Type4 p w m) = refl
    by (Type5 p s e) = small s.collection_complete
    by (Type6 p d k n c) = small c
    by (Type0LegacyServer p d k s) = small s.collection_complete
    by (Type0LegacyGpu p s) = small s.collection_complete

status_back : (s : Status) → record { completion_status = s.completion_status; collection_complete = yes (from_bool s.collection_complete) } ≡ s
status_back s = ap (λ (c : Bool). record { completion_status = s.completion_status; collection_complete = c }) (yes_no_lem s.collection_complete)

type_back : (h : Header) (t : HeaderType) → type_of (fields_in (flat h (fields_of t))) ≡ Some t
type_back h Type0 = refl
type_back h Type1 = refl
type_back h (Type2 p) = refl
type_back h (Type3 p s) = ap (λ (s : Status). Some (Type3 p s)) (status_back s)
type_back h (Type4 p w m) = refl
type_back h (Type5 p s e) = ap (λ (s : Status). Some (Type5 p s e)) (status_back s)
type_back h (Type6 p d k n c) = ap (λ (c : Bool). Some (Type6 p d k n c)) (yes_no_lem c)
type_back h (Type0LegacyServer p d k s) = ap (λ (s : Status). Some (Type0LegacyServer p d k s)) (status_back s)
type_back h (Type0LegacyGpu p s) = ap (λ (s : Status). Some (Type0LegacyGpu p s)) (status_back s)

-- the header whose version has these yes/no, with these fields
abbrev rebuilt : Header → Bool → Bool → HeaderType → Header
rebuilt h consumed cldic t =
    record {
      version = record {
        revision = h.version.revision;
        header_type = h.version.header_type;
        product_id = h.version.product_id;
        record_type = h.version.record_type;
        consumed = consumed;
        cldic = cldic;
      };
      size = h.size;
      header_type = t;
      completion_statuses = h.completion_statuses;
    }

header_back : (h : Header) → header_in (header_out h) ≡ Some h
unfolding header_in header_out
header_back h =
    ap₂ (λ (consumed cldic : Bool). option_map (rebuilt h consumed cldic) (type_of (fields_in (flat h (fields_of h.header_type))))) (yes_no_lem h.version.consumed) (yes_no_lem h.version.cldic)
    ∙ ap (option_map (rebuilt h h.version.consumed h.version.cldic)) (type_back h h.header_type)

pub taken_back : (h : Header) → taken_of (header_out h) ≡ Some h
unfolding header_out
taken_back h = rw (sound_out h h.header_type) (header_back h)
