-- What the encoder answers, and the output that it leaves (document 01: refusals 2, 11, 10 in that order).
use Rattle.std.specs.Prelude.{ℕ, Bool, cond, not, ◌&&◌, List, ◌++◌, Result, Ok, Err, eqb, leb, ltb, length, drop}
use Rattle.answers.specs.Numbers.{bad_rules, output_short, bad_field}
use Rattle.rules.specs.Rules.{valid_of, flags_of}
use Rattle.header_judge.specs.Version.{no_word, end_mark, word_from}
use Rattle.header_judge.specs.Head.{layout_of}
use Rattle.header_judge.specs.declared.version.Version.{Version}
use Rattle.header_judge.specs.declared.Layout.{Layout}
use Rattle.header_judge.specs.declared.Layout.TheVariants.{Zero, One, Two, Three, Four, Five, Six, LegacyServer, LegacyGpu, Bad}
use Rattle.header.specs.Access.{layout_in, header_size}
use Rattle.header.specs.declared.Header.{Header}
use Rattle.header.specs.declared.HeaderType.{HeaderType}
use Rattle.header_write.specs.Values.{header_bytes}
use Rattle.header_write.specs.Fit.{fields_fit}
use Rattle.header_encode.specs.declared.Refusal.{Refusal}
use Rattle.header_encode.specs.declared.Refusal.TheVariants.{BadRules, BadField, OutputShort}

-- ---- when a header can be encoded

-- each field of the version is within its bits
abbrev pub version_fits : Version → Bool
version_fits v =
    ltb v.revision 256 && (ltb v.header_type 16 && (ltb v.product_id 4096 && ltb v.record_type 64))

-- a version word that does not read as ended
abbrev pub readable : ℕ → Bool
readable word = not (eqb word no_word) && not (eqb word end_mark)

-- the layouts by number: the header type, then the two legacy layouts
abbrev pub layout_number : Layout → ℕ
layout_number Zero = 0
layout_number One = 1
layout_number Two = 2
layout_number Three = 3
layout_number Four = 4
layout_number Five = 5
layout_number Six = 6
layout_number LegacyServer = 7
layout_number LegacyGpu = 8
layout_number Bad = 9

-- the layout is the one that flags and type choose
abbrev pub layout_fits : List ℕ → ℕ → HeaderType → Bool
layout_fits rules word t = eqb (layout_number (layout_of word (flags_of rules word))) (layout_number (layout_in t))

unfoldable pub encodable : List ℕ → Header → Bool
encodable rules h =
    version_fits h.version
    && (readable (word_from h.version)
    && (layout_fits rules (word_from h.version) h.header_type
    && fields_fit h.header_type h.version.revision h.size.extended_record_size))

-- ---- the answer

-- the output at the end, and the bytes written, or why none are
unfoldable pub encoded_of : List ℕ → Header → List ℕ → List ℕ × Result ℕ Refusal
encoded_of rules h out =
    cond (valid_of rules)
    (cond (encodable rules h)
    (cond (leb (header_size h.header_type) (length out))
    (header_bytes h ++ drop (header_size h.header_type) out, Ok (header_size h.header_type))
    (out, Err OutputShort))
    (out, Err BadField))
    (out, Err BadRules)

-- document 01's number of each refusal
abbrev pub number_of : Refusal → ℕ
number_of BadRules = bad_rules
number_of BadField = bad_field
number_of OutputShort = output_short
