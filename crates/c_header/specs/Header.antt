-- A header in C's flat form (document 01, 'Record header'): each field of the version, the sizes and the status words as it is,
-- and of the others those that the layout has, with zeros for the rest.
use Rattle.std.specs.Prelude.{ℕ, Bool, false, cond, not, ◌&&◌, ◌||◌, List, [], ◌∷◌, Option, None, option_map, slice_get, eqb, leb, ltb}
use Rattle.std.specs.Int.{from_bool}
use Rattle.header.specs.Layouts.{stamp}
use Rattle.header.specs.declared.Header.{Header}
use Rattle.header.specs.declared.Stamp.{Stamp}
use Rattle.header.specs.declared.Status.{Status}
use Rattle.header.specs.declared.HeaderType.{HeaderType}
use Rattle.header.specs.declared.HeaderType.TheVariants.{Type0, Type1, Type2, Type3, Type4, Type5, Type6, Type0LegacyServer, Type0LegacyGpu}
use Rattle.c_header.specs.declared.CHeader.{CHeader}
use Rattle.c_header.specs.declared.Extras.{Extras}
use Rattle.c_header.specs.declared.Fields.{Fields}

-- yes is 1
abbrev pub yes : ℕ → Bool
yes n = eqb n 1

-- ---- out: a header for C

abbrev pub no_stamp : Stamp
no_stamp = stamp 0 0 0

-- complete, beside a status of 0
abbrev pub only_complete : Bool → Status
only_complete c = record { completion_status = 0; collection_complete = c }

-- what only one layout or two have: an error status; whoami and misc; die, socket and a count
abbrev pub error_extras : ℕ → Extras
error_extras e = record { error_status = e; whoami = 0; misc = 0; die_id = 0; socket_id = 0; completion_status_size = 0 }

abbrev pub who_extras : ℕ → ℕ → Extras
who_extras w m = record { error_status = 0; whoami = w; misc = m; die_id = 0; socket_id = 0; completion_status_size = 0 }

abbrev pub socket_extras : ℕ → ℕ → ℕ → Extras
socket_extras d k n = record { error_status = 0; whoami = 0; misc = 0; die_id = d; socket_id = k; completion_status_size = n }

abbrev pub no_status : Status
no_status = only_complete false

abbrev pub no_extras : Extras
no_extras = error_extras 0

abbrev pub fields_with : ℕ → Stamp → Status → Extras → Fields
fields_with layout p s x = record { layout = layout; stamp = p; status = s; extras = x }

-- the layout's number, and its fields
abbrev pub fields_of : HeaderType → Fields
fields_of Type0 = fields_with 0 no_stamp no_status no_extras
fields_of Type1 = fields_with 1 no_stamp no_status no_extras
fields_of (Type2 p) = fields_with 2 p no_status no_extras
fields_of (Type3 p s) = fields_with 3 p s no_extras
fields_of (Type4 p w m) = fields_with 4 p no_status (who_extras w m)
fields_of (Type5 p s e) = fields_with 5 p s (error_extras e)
fields_of (Type6 p d k n c) = fields_with 6 p (only_complete c) (socket_extras d k n)
fields_of (Type0LegacyServer p d k s) = fields_with 7 p s (socket_extras d k 0)
fields_of (Type0LegacyGpu p s) = fields_with 8 p s no_extras

-- the flat form of a header with these fields
abbrev pub flat : Header → Fields → CHeader
flat h f =
    record {
      timestamp = f.stamp.timestamp;
      revision = h.version.revision;
      product_id = h.version.product_id;
      agent_version = f.stamp.agent_version;
      reason = f.stamp.reason;
      completion_status = f.status.completion_status;
      error_status = f.extras.error_status;
      whoami = f.extras.whoami;
      misc = f.extras.misc;
      header_type = h.version.header_type;
      record_size = h.size.record_size;
      extended_record_size = h.size.extended_record_size;
      completion_status_size = f.extras.completion_status_size;
      record_type = h.version.record_type;
      cldic = from_bool h.version.cldic;
      consumed = from_bool h.version.consumed;
      layout = f.layout;
      die_id = f.extras.die_id;
      socket_id = f.extras.socket_id;
      collection_complete = from_bool f.status.collection_complete;
      reserved = 0;
      completion_statuses = h.completion_statuses;
    }

unfoldable pub header_out : Header → CHeader
header_out h = flat h (fields_of h.header_type)

-- ---- in: a header from C

-- layouts 3 and 5 to 8 have a collection that may be complete
abbrev pub has_complete : ℕ → Bool
has_complete layout = eqb layout 3 || ltb 4 layout

-- the layout is one, and each yes/no that the header has is 1 or 0
unfoldable pub sound : CHeader → Bool
sound c =
    leb c.layout 8
    && (leb c.cldic 1 && (leb c.consumed 1 && (not (has_complete c.layout) || leb c.collection_complete 1)))

abbrev pub fields_in : CHeader → Fields
fields_in c =
    record {
      layout = c.layout;
      stamp = stamp c.timestamp c.agent_version c.reason;
      status = record { completion_status = c.completion_status; collection_complete = yes c.collection_complete };
      extras = record {
        error_status = c.error_status;
        whoami = c.whoami;
        misc = c.misc;
        die_id = c.die_id;
        socket_id = c.socket_id;
        completion_status_size = c.completion_status_size;
      };
    }

-- the layouts in the order of their numbers, with their fields
abbrev pub types_from : Stamp → Status → Extras → List HeaderType
types_from p s x =
    Type0
    ∷ Type1
    ∷ Type2 p
    ∷ Type3 p s
    ∷ Type4 p x.whoami x.misc
    ∷ Type5 p s x.error_status
    ∷ Type6 p x.die_id x.socket_id x.completion_status_size s.collection_complete
    ∷ Type0LegacyServer p x.die_id x.socket_id s
    ∷ Type0LegacyGpu p s
    ∷ []

-- none, where the layout's number is that of no layout
abbrev pub type_of : Fields → Option HeaderType
type_of f = slice_get (types_from f.stamp f.status f.extras) f.layout

abbrev pub header_from : CHeader → HeaderType → Header
header_from c t =
    record {
      version = record {
        revision = c.revision;
        header_type = c.header_type;
        product_id = c.product_id;
        record_type = c.record_type;
        consumed = yes c.consumed;
        cldic = yes c.cldic;
      };
      size = record { record_size = c.record_size; extended_record_size = c.extended_record_size };
      header_type = t;
      completion_statuses = c.completion_statuses;
    }

unfoldable pub header_in : CHeader → Option Header
header_in c = option_map (header_from c) (type_of (fields_in c))

-- none, where a value is not one that C may hand in
abbrev pub taken_of : CHeader → Option Header
taken_of c = cond (sound c) (header_in c) None
