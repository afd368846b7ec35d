-- The record types and their names (`record_type_as_str`, and UNKNOWN for every other number).
use Rattle.std.specs.Prelude.{ℕ, ◌-◌, cond, List, [], ◌∷◌, ◌++◌, eqb, leb, length, get_or, drop, replicate}
use Rattle.names.specs.Ascii.{ascii}

-- record types, each with its name
abbrev pub Table : Type 0
Table = List (ℕ × List ℕ)

-- the record types that have a name, in ascending order
unfoldable pub named : Table
named =
    (0x01, ascii "PMC")
    ∷ (0x02, ascii "PMC_FW_Trace")
    ∷ (0x03, ascii "Punit")
    ∷ (0x04, ascii "PCORE")
    ∷ (0x06, ascii "ECORE")
    ∷ (0x08, ascii "UNCORE")
    ∷ (0x11, ascii "PMC_TRACE")
    ∷ (0x16, ascii "TCSS")
    ∷ (0x17, ascii "PMC_RST")
    ∷ (0x19, ascii "PCODE")
    ∷ (0x1c, ascii "CRASHLOG_AGENT")
    ∷ (0x3d, ascii "BOX")
    ∷ (0x3e, ascii "MCA")
    ∷ []

-- the name of every other type
abbrev pub unknown : List ℕ
unknown = ascii "UNKNOWN"

-- the type and the name at a place of a table; past its end type 0, which has no name
abbrev pub type_at : Table → ℕ → ℕ
type_at table place = (get_or table place (0, unknown)).0

abbrev pub text_at : Table → ℕ → List ℕ
text_at table place = (get_or table place (0, unknown)).1

-- the name of a record type by a table
unfoldable pub lookup : ℕ → Table → List ℕ
lookup t [] = unknown
lookup t ((code, name) ∷ rest) = cond (eqb t code) name (lookup t rest)

-- the name of a record type
unfoldable pub text_of : ℕ → List ℕ
text_of t = lookup t named

-- a name with zeros after it up to 16 bytes
unfoldable pub padded : List ℕ → List ℕ
padded name = name ++ replicate (16 - length name) 0

-- a name at the start of the output, where it fits, and its length
unfoldable pub name_out : List ℕ → List ℕ → List ℕ × ℕ
name_out name out = (cond (leb (length name) (length out)) (name ++ drop (length name) out) out, length name)
