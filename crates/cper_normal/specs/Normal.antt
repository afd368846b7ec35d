-- The normal form of a CPER (document 01, 'CPER'): the kept sections in order, their bodies packed after the descriptors.
use Rattle.std.specs.Prelude.{ℕ, ◌+◌, ◌*◌, List, [], ◌∷◌, ◌++◌, cond, ◌&&◌, leb, length, drop, Result, Ok, Err}
use Rattle.cper_header.specs.Record.{header_size}
use Rattle.cper_header.specs.Header.{header_of, counted, normal_header, header_bytes}
use Rattle.cper_descr.specs.Descriptor.{descriptor_size, descriptor_of, moved, normal_descriptor, descriptor_bytes}
use Rattle.cper_sections.specs.Answers.{checked}
use Rattle.cper_sections.specs.Sections.{descriptor_at, kept_of, body_of}
use Rattle.cper_sections.specs.declared.Refusal.{Refusal}
use Rattle.cper_sections.specs.declared.Refusal.TheVariants.{OutputShort}
use Rattle.cper_sections.specs.declared.kept.Section.{Section}

-- ---- its length

-- the lengths of the bodies together
unfoldable pub body_sizes : List Section → ℕ
body_sizes [] = 0
body_sizes (k ∷ ks) = k.size + body_sizes ks

-- where the bodies start
abbrev pub bodies_at : List Section → ℕ
bodies_at ks = header_size + descriptor_size * length ks

-- header, descriptors and bodies
abbrev pub size_of : List Section → ℕ
size_of ks = bodies_at ks + body_sizes ks

-- ---- its bytes

abbrev pub header_for : List ℕ → List Section → List ℕ
header_for cper ks = header_bytes (normal_header (counted (length ks) (size_of ks) (header_of cper)))

-- a section's descriptor, its body at `to`
abbrev pub descriptor_for : List ℕ → Section → ℕ → List ℕ
descriptor_for cper k to = descriptor_bytes (normal_descriptor (moved to (descriptor_of (drop (descriptor_at k.index) cper))))

-- the descriptors; the first body is at `to`, each other after the one before
unfoldable pub descriptors_for : List ℕ → List Section → ℕ → List ℕ
descriptors_for cper [] to = []
descriptors_for cper (k ∷ ks) to = descriptor_for cper k to ++ descriptors_for cper ks (to + k.size)

unfoldable pub bodies_of : List ℕ → List Section → List ℕ
bodies_of cper [] = []
bodies_of cper (k ∷ ks) = body_of cper k ++ bodies_of cper ks

-- a record made of some sections of a CPER
abbrev pub record_of : List ℕ → List Section → List ℕ
record_of cper ks = header_for cper ks ++ (descriptors_for cper ks (bodies_at ks) ++ bodies_of cper ks)

unfoldable pub normal_of : List ℕ → List ℕ
normal_of cper = record_of cper (kept_of cper)

-- ---- what the call does

-- the longest output that is written
abbrev pub most_output : ℕ
most_output = 0xFFFF_FFFF

-- the output with the normal form, where that fits, and its length
unfoldable pub packed_in : List ℕ → List ℕ → List ℕ × Result ℕ Refusal
packed_in cper out =
    let size = size_of (kept_of cper) in
    cond (leb size (length out) && leb size most_output) (normal_of cper ++ drop size out, Ok size) (out, Err OutputShort)

-- the output after the call, which a refusal leaves as it is, and what is told
unfoldable pub normalised_of : List ℕ → List ℕ → List ℕ × Result ℕ Refusal
normalised_of cper out = checked cper (λ refusal. (out, Err refusal)) (packed_in cper out)
