-- A row beside a decode of the header that stands at its offset in the whole input (document 02, C-17).
use Rattle.std.specs.Prelude.{◌≡◌, List, ℕ, Ok, drop}
use Rattle.header_judge.specs.Version.{version_of}
use Rattle.header.specs.Header.{decoded_of}
use Rattle.header.specs.declared.Decoded.{Decoded}
use Rattle.header_laws.specs.Agree.{origin_named}
use Rattle.region_rows.specs.declared.Span.{Span}

-- a header stands at a row's offset in the input, and its decode tells what the row has
pub record Decodes (rules bytes : List ℕ) (r : Span) : Type 0 where
  pub decoded : Decoded
  pub done : decoded_of rules (drop r.offset bytes) ≡ Ok decoded
  pub version : decoded.header.version ≡ version_of r.word
  pub flags : decoded.flags ≡ r.flags
  pub declared : decoded.declared ≡ r.declared
  pub size : decoded.header_size ≡ r.size
  pub socket : (origin_named decoded.header.header_type).socket ≡ r.socket
  pub die : (origin_named decoded.header.header_type).die ≡ r.die
