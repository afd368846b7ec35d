-- What a decode answers where one try was made.
use Rattle.std.specs.Prelude.{ℕ, List, Option, Some, None}
use Rattle.header_judge.specs.Head.{no_die}
use Rattle.header_judge.specs.declared.origin.Origin.{Origin}
use Rattle.header_judge.specs.declared.Summary.{Summary}
use Rattle.header.specs.Header.{header_of}
use Rattle.header.specs.Access.{socket_of, die_of}
use Rattle.header.specs.declared.HeaderType.{HeaderType}
use Rattle.header.specs.declared.Decoded.{Decoded}

-- a decode that finds a record
abbrev pub decoded_record : List ℕ → Summary → Decoded
decoded_record bs s = record { header = header_of bs s.word s.flags; flags = s.flags; declared = s.declared; header_size = s.size }

-- the die that a header names as a number
abbrev pub die_number : Option ℕ → ℕ
die_number (Some d) = d
die_number None = no_die

-- the socket and the die that the fields of a header name
abbrev pub origin_named : HeaderType → Origin
origin_named fields = record { socket = socket_of fields; die = die_number (die_of fields) }

-- what a decoded header of a version word says of its record
abbrev pub decoded_summary : ℕ → Decoded → Summary
decoded_summary word d =
    let origin = origin_named d.header.header_type in
    record { word = word; flags = d.flags; declared = d.declared; size = d.header_size; socket = origin.socket; die = origin.die }
