-- Sections written one after the other, each descriptor as a row's and each body after the one before, make a record.
-- By induction over the sections, with the bytes written so far set apart from those still to be written. Assumes nothing.
use mathlib.Core.Path.{◌≡◌, refl, sym, ap, ap₂, ◌∙◌}
use mathlib.Core.List.{List, [], ◌∷◌, ◌++◌, append_assoc}
use Prim.Native.Nat.{ℕ, ◌+◌, ◌*◌, ◌≤◌}
use native.Mathlib.Omega.{arith}
use lib.ListN.{length, take, drop, length-append, length-drop, take-append-drop}
use lib.Seq.{take_at, drop_at, drop-drop, length-take-le}
use Rattle.cper_fields.specs.Fields.{over}
use Rattle.cper_header.specs.Record.{header_size}
use Rattle.cper_descr.specs.Descriptor.{descriptor_size, descriptor_of, bits_of}
use Rattle.cper_fields.proofs.Lengths.{length_part}
use Rattle.cper_descr.proofs.Lengths.{length-descriptor_read}
use Rattle.cper_sections.specs.Sections.{descriptor_at, body_of}
use Rattle.cper_sections.specs.Steps.{Within, AllWithin}
use Rattle.cper_sections.specs.declared.kept.Section.{Section}
use Rattle.cper_normal.specs.Normal.{body_sizes, bodies_at, size_of, descriptor_for, descriptors_for, bodies_of}
use Rattle.cper_normal.specs.Steps.{with_section, pack}

-- ---- sections of the input

pub length-body : (cper : List ℕ) (k : Section) → Within cper k → length (body_of cper k) ≡ k.size
length-body cper k h = length_part cper k.offset k.size h.body

pub length-descriptor_for : (cper : List ℕ) (k : Section) (to : ℕ) → Within cper k → length (descriptor_for cper k to) ≡ descriptor_size
length-descriptor_for cper k to h =
    let bs = drop (descriptor_at k.index) cper in
    length-descriptor_read bs to (bits_of (descriptor_of bs)) (omega (arith, length-drop (descriptor_at k.index) cper))

-- ---- written one after the other

-- a section, and then those after it
pub pack_section : (cper out : List ℕ) (row to : ℕ) (k : Section) (ks : List Section) {next : List ℕ}
    → next ≡ with_section cper out row to k → pack cper next (row + 1) (to + k.size) ks ≡ pack cper out row to (k ∷ ks)
unfolding pack
pack_section cper out row to k ks e = ap (λ (l : List ℕ). pack cper l (row + 1) (to + k.size) ks) e

-- a field written between what stands before it and after it
over_at : (front old rest field : List ℕ) (at n : ℕ) → length front ≡ at → length old ≡ n → over (front ++ (old ++ rest)) at n field ≡ front ++ (field ++ rest)
over_at front old rest field at n e f =
    ap₂ (λ (a b : List ℕ). a ++ field ++ b)
    (take_at front (old ++ rest) at e)
    (sym (drop-drop n at (front ++ (old ++ rest))) ∙ ap (drop n) (drop_at front (old ++ rest) at e) ∙ drop_at old rest n f)
    ∙ append_assoc front field rest

-- one section: its descriptor takes the first slot, its body follows the bodies
one_section : (cper : List ℕ) (k : Section) (row to : ℕ) (front slot slots bodies old rest : List ℕ)
    → length front ≡ descriptor_at row → length slot ≡ descriptor_size → length old ≡ k.size
    → length front + descriptor_size + length slots + length bodies ≡ to → length (descriptor_for cper k to) ≡ descriptor_size
    → with_section cper (front ++ ((slot ++ slots) ++ (bodies ++ (old ++ rest)))) row to k
    ≡ (front ++ descriptor_for cper k to) ++ (slots ++ ((bodies ++ body_of cper k) ++ rest))
one_section cper k row to front slot slots bodies old rest f s o t d =
    let new = descriptor_for cper k to in
    let before = front ++ (new ++ (slots ++ bodies)) in
    let size : length before ≡ to = simp length-append (omega arith) in
    let split : front ++ (new ++ (slots ++ (bodies ++ (old ++ rest)))) ≡ before ++ (old ++ rest) = simp append_assoc in
    let joined : before ++ (body_of cper k ++ rest) ≡ (front ++ new) ++ (slots ++ ((bodies ++ body_of cper k) ++ rest)) = simp append_assoc in
    ap (λ (l : List ℕ). over l to k.size (body_of cper k))
    (ap (λ (l : List ℕ). over (front ++ l) (descriptor_at row) descriptor_size new) (append_assoc slot slots (bodies ++ (old ++ rest)))
    ∙ over_at front slot (slots ++ (bodies ++ (old ++ rest))) new (descriptor_at row) descriptor_size f s
    ∙ split)
    ∙ over_at before old rest (body_of cper k) to k.size size o
    ∙ joined

-- `front` up to a row's descriptor, `slots` for the descriptors still to be written, the bodies so far, `rest`
pack_from : (cper : List ℕ) (ks : List Section) (row to : ℕ) (front slots bodies rest : List ℕ)
    → AllWithin cper ks → length front ≡ descriptor_at row → length slots ≡ descriptor_size * length ks → length front + length slots + length bodies ≡ to → body_sizes ks ≤ length rest
    → pack cper (front ++ (slots ++ (bodies ++ rest))) row to ks ≡ front ++ (descriptors_for cper ks to ++ (bodies ++ (bodies_of cper ks ++ drop (body_sizes ks) rest)))
unfolding pack descriptors_for bodies_of body_sizes
pack_from cper [] row to front [] bodies rest i f s t r = refl
pack_from cper [] row to front (x ∷ slots) bodies rest i f s t r = absurd (omega arith)
pack_from cper (k ∷ ks) row to front slots bodies rest i f s t r =
    let new = descriptor_for cper k to in
    let body = body_of cper k in
    let slot = take descriptor_size slots in
    let others = drop descriptor_size slots in
    let old = take k.size rest in
    let after = drop k.size rest in
    let slot-size : length slot ≡ descriptor_size = length-take-le descriptor_size slots (omega arith) in
    let others-size = length-drop descriptor_size slots in
    let old-size : length old ≡ k.size = length-take-le k.size rest (omega arith) in
    let after-size = length-drop k.size rest in
    let new-size = length-descriptor_for cper k to i.0 in
    let body-size = length-body cper k i.0 in
    ap₂ (λ (a b : List ℕ). pack cper (with_section cper (front ++ (a ++ (bodies ++ b))) row to k) (row + 1) (to + k.size) ks)
    (sym (take-append-drop descriptor_size slots)) (sym (take-append-drop k.size rest))
    ∙ ap (λ (l : List ℕ). pack cper l (row + 1) (to + k.size) ks)
    (one_section cper k row to front slot others bodies old after f slot-size old-size (omega arith) new-size)
    ∙ pack_from cper ks (row + 1) (to + k.size) (front ++ new) others (bodies ++ body) after i.1
    (simp length-append (omega arith)) (omega arith) (simp length-append (omega arith)) (omega arith)
    ∙ simp (append_assoc, drop-drop)

-- a record's header, and then its sections
pub packed : (cper out : List ℕ) (ks : List Section) (header : List ℕ) → AllWithin cper ks → length header ≡ header_size → size_of ks ≤ length out
    → pack cper (header ++ drop header_size out) 0 (bodies_at ks) ks ≡ header ++ (descriptors_for cper ks (bodies_at ks) ++ bodies_of cper ks) ++ drop (size_of ks) out
packed cper out ks header i h r =
    let room = drop header_size out in
    let slots = take (descriptor_size * length ks) room in
    let rest = drop (descriptor_size * length ks) room in
    let room-size = length-drop header_size out in
    let slots-size : length slots ≡ descriptor_size * length ks = length-take-le (descriptor_size * length ks) room (omega arith) in
    let rest-size = length-drop (descriptor_size * length ks) room in
    ap (λ (l : List ℕ). pack cper (header ++ l) 0 (bodies_at ks) ks) (sym (take-append-drop (descriptor_size * length ks) room))
    ∙ pack_from cper ks 0 (bodies_at ks) header slots [] rest i h slots-size (omega arith) (omega arith)
    ∙ simp (append_assoc, drop-drop)
