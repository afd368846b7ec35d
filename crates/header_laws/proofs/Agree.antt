-- One try and a decode judge a header alike; the size and the declared bytes that a decode tells are those of its header.
-- From what is known where a decode is done; a refusal's answer tells the refusal. Assumes nothing.
use mathlib.Core.Path.{◌≡◌, refl, sym, ap, ◌∙◌}
use mathlib.Core.Bool.{true}
use mathlib.Core.List.{List}
use mathlib.Core.Logic.{◌↔◌}
use Prim.Native.Nat.{ℕ, ◌≤◌, ◌<◌}
use lib.ListN.{length}
use native.Mathlib.Omega.{arith}
use Rattle.std.proofs.Common.{Ok, Err}
use Rattle.le.specs.Le.{le}
use Rattle.rules.specs.Rules.{valid_of, flags_of}
use Rattle.layout.specs.Fields.{Field, read_all}
use Rattle.header_judge.specs.Version.{word_of}
use Rattle.header_judge.specs.Head.{declared_of, layout_of, count_of, size_for, origin_in, origin_of, summary_of, head_of, number_of as headNumber, Head}
use Rattle.header_judge.specs.declared.Layout.{Layout}
use Rattle.header_judge.specs.declared.Layout.TheVariants.{Zero, One, Two, Three, Four, Five, Six, LegacyServer, LegacyGpu, Bad}
use Rattle.header_judge.specs.declared.origin.Origin.{Origin}
use Rattle.header_judge.specs.declared.Summary.{Summary}
use Rattle.header_judge.specs.declared.NoRecord.{NoRecord}
use Rattle.header.specs.Layouts.{table_of, type_from}
use Rattle.header.specs.Header.{refusal_of, answer_of, judged_from, decoded_from, numbers_of, header_of, decoded_of}
use Rattle.header.specs.Access.{count_in, header_size, record_bytes}
use Rattle.header.specs.declared.Refusal.{Refusal}
use Rattle.header.specs.declared.Decoded.{Decoded}
use Rattle.header.specs.declared.Refusal.TheVariants.{Ended, BadRules, BadHeader, BadType}
use Rattle.header_laws.specs.Agree.{decoded_record, origin_named, decoded_summary}
use Rattle.header_laws.proofs.Layouts.{layout_from, shape_read}
use Rattle.header_laws.proofs.Done.{decoded_from_lem, decoded_of_record, done_known, known_decoded}

-- what one try found, by the refusal for it
why_of : Refusal → NoRecord
why_of (Ended e) = NoRecord.Ended e
why_of BadRules = NoRecord.BadHeader
why_of BadHeader = NoRecord.BadHeader
why_of (BadType t) = NoRecord.BadType t

why_back : (why : NoRecord) → why_of (refusal_of why) ≡ why
unfolding why_of
why_back (NoRecord.Ended e) = refl
why_back NoRecord.BadHeader = refl
why_back (NoRecord.BadType t) = refl

-- a decode is refused for what one try found
refused : (bs : List ℕ) (h : Head) {why : NoRecord} → decoded_from bs (judged_from h) ≡ Err (refusal_of why) → h ≡ Err why
unfolding judged_from
refused bs (Err found) {why} e =
    let same : refusal_of found ≡ refusal_of why = cc in
    ap Err (sym (why_back found) ∙ ap why_of same ∙ why_back why)
refused bs (Ok s) e = absurd (let o : ◌≡◌ {A = ℕ} 0 1 = cc in omega arith)

-- the size of a header that is read
size_read : (bs : List ℕ) (l : Layout) → 0 < size_for l (count_of bs) → size_for l (count_of bs) ≤ length bs → header_size (type_from l (numbers_of bs l)) ≡ size_for l (count_of bs)
unfolding numbers_of
size_read bs l some room =
    let vs = read_all (table_of l (count_of bs)) bs in
    ap (λ (k : Layout). size_for k (count_in (type_from l vs))) (layout_from l (count_of bs) vs some)
    ∙ ap (λ (s : List Field × ℕ). s.1) (shape_read bs l (count_of bs) room)

-- a summary with another socket and die
abbrev naming : Origin → Summary → Summary
naming o s = record { word = s.word; flags = s.flags; declared = s.declared; size = s.size; socket = o.socket; die = o.die }

-- the socket and the die of a header that is read
origin_read : (bs : List ℕ) (word flags : ℕ) → word ≡ le 4 bs 0
    → origin_named (header_of bs word flags).header_type ≡ origin_of bs word flags
unfolding origin_of numbers_of read_all
origin_read bs word flags e = by (layout_of word flags)
  where
    by : (l : Layout) → origin_named (type_from l (numbers_of bs l)) ≡ origin_in l bs word
    by Zero = refl
    by One = refl
    by Two = refl
    by Three = refl
    by Four = refl
    by Five = refl
    by Six = refl
    by LegacyServer = rw e
    by LegacyGpu = refl
    by Bad = refl

module _ (rules bs : List ℕ) where
  -- ---- one try, and the decode

  module _ (valid : valid_of rules ≡ true) where
    -- a record that one try finds is decoded, with its flags, declared bytes and size
    pub record_decoded : {s : Summary} → head_of rules bs ≡ Ok s → decoded_of rules bs ≡ Ok (decoded_record bs s)
    record_decoded = decoded_of_record rules bs valid

    -- ended, by the same ending, bad header and bad type: the one gives them where the other does
    pub refusals_agree : {why : NoRecord} → (head_of rules bs ≡ Err why) ↔ (decoded_of rules bs ≡ Err (refusal_of why))
    unfolding judged_from
    refusals_agree = (
      λ e. decoded_from_lem rules bs valid ∙ ap (λ (h : Head). decoded_from bs (judged_from h)) e,
      λ e. refused bs (head_of rules bs) (sym (decoded_from_lem rules bs valid) ∙ e),
    )

  -- a decode that is done
  module _ (d : Decoded) (done : decoded_of rules bs ≡ Ok d) where
    -- a record that is decoded is one that one try finds, with its flags, declared bytes and size, and the socket and the die that its header names
    pub decoded_record_lem : head_of rules bs ≡ Ok (decoded_summary (word_of bs) d)
    decoded_record_lem =
        let found = done_known rules bs done in
        let word = word_of bs in
        let flags = flags_of rules word in
        rw (known_decoded rules bs found done)
        (found.head ∙ ap (λ (o : Origin). Ok (naming o (summary_of bs word flags))) (sym (origin_read bs word flags found.word_is)))

    -- ---- the header itself

    pub header_size_decoded : d.header_size ≡ header_size d.header.header_type
    header_size_decoded =
        let found = done_known rules bs done in
        rw (known_decoded rules bs found done)
        (sym (size_read bs (layout_of (word_of bs) (flags_of rules (word_of bs))) found.some found.room))

    pub declared_decoded : d.declared ≡ record_bytes d.header d.flags
    unfolding declared_of
    declared_decoded = rw (known_decoded rules bs (done_known rules bs done) done)

-- ---- by document 01's numbers

-- one try and decode answer with the same number
pub numbers_agree : (rules bs : List ℕ) → valid_of rules ≡ true → answer_of (decoded_of rules bs) ≡ headNumber (head_of rules bs)
unfolding judged_from
numbers_agree rules bs valid = ap answer_of (decoded_from_lem rules bs valid) ∙ by (head_of rules bs)
  where
    by : (h : Head) → answer_of (decoded_from bs (judged_from h)) ≡ headNumber h
    by (Err (NoRecord.Ended e)) = refl
    by (Err NoRecord.BadHeader) = refl
    by (Err (NoRecord.BadType t)) = refl
    by (Ok s) = refl
