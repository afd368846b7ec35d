-- The two nested walks are one to their callers: the flat listing asks and promises, word for word, what the nested listing does.
-- The contracts are one term. Assumes nothing.
use mathlib.Core.Path.{◌≡◌, refl}
use Rattle.region.proofs.list.Reads as nested
use Rattle.region_flat.proofs.list_flat.Reads as flat

pub same_asked : flat.Pre ≡ nested.Pre
same_asked = refl

pub same_promised : flat.Post ≡ nested.Post
same_promised = refl
