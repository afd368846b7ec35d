-- `name` puts the name of a version word's record type.
-- A name has at most 16 bytes. Assumes nothing.
use mathlib.Core.Path.{ap, ◌∙◌}
use native.Mathlib.Omega.{arith}
use lib.ListN.{length}
use Rattle.header_judge.specs.declared.version.Version.{Version}
use Rattle.header_judge.specs.Version.{record_type}
use Rattle.names.specs.Names.{text_of}
use Rattle.names.proofs.Laws.{length_text}
use Rattle.text.proofs.Pieces.{fewer}
use Rattle.text.proofs.page.Page.name.Goals as goal

pub text-requires : goal.text-requires
text-requires c =
    let name = c.as_bytes.ensures.value ∙ c.name_of-name.ensures in
    omega (arith, ap length name, length_text c.from_u32-version.result.record_type)

pub returns : goal.returns
returns c =
    let type_of = ap (λ (v : Version). text_of v.record_type) c.from_u32-version.ensures in
    let name = c.as_bytes.ensures.value ∙ c.name_of-name.ensures ∙ type_of in
    fewer 16 (rw name at c.text.ensures) (length_text (record_type c.args.word))
