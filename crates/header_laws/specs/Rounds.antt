-- What the round trips give: a header without what is no part of it, and a header's bytes without what is not read (document 01, 'Record header').
use Rattle.std.specs.Prelude.{ℕ, ◌+◌, ◌*◌, ◌/◌, ◌%◌, List, take}
use Rattle.le.specs.Le.{le, put}
use Rattle.rules.specs.Rules.{flags_of}
use Rattle.header_judge.specs.Version.{word_from}
use Rattle.header_judge.specs.declared.Layout.{Layout}
use Rattle.header_judge.specs.declared.Layout.TheVariants.{Zero, One, Two, Three, Four, Five, Six, LegacyServer, LegacyGpu, Bad}
use Rattle.header.specs.Layouts.{padded}
use Rattle.header.specs.Access.{layout_in, count_in, header_size, record_bytes}
use Rattle.header.specs.declared.Header.{Header}
use Rattle.header.specs.declared.HeaderType.{HeaderType}
use Rattle.header.specs.declared.Decoded.{Decoded}

-- ---- decode after encode

-- a header with the status words past its count as 0
abbrev pub cleared : Header → Header
cleared h =
    record {
      version = h.version;
      size = h.size;
      header_type = h.header_type;
      completion_statuses = padded (take (count_in h.header_type) h.completion_statuses);
    }

-- the flags of a header
abbrev pub flags_in : List ℕ → Header → ℕ
flags_in rules h = flags_of rules (word_from h.version)

-- a decode that gives a header
abbrev pub decoded_as : List ℕ → Header → Decoded
decoded_as rules h =
    record {
      header = h;
      flags = flags_in rules h;
      declared = record_bytes h (flags_in rules h);
      header_size = header_size h.header_type;
    }

-- ---- encode after decode

-- a halfword with its bits 7 to 14 as 0
abbrev pub clean_half : ℕ → ℕ
clean_half half = half % 128 + half / 32768 % 2 * 32768

-- some bytes with the bits that a layout does not read as 0
abbrev pub unread_zero : Layout → List ℕ → List ℕ
unread_zero Zero bs = bs
unread_zero One bs = bs
unread_zero Two bs = bs
unread_zero Three bs = bs
unread_zero Four bs = bs
unread_zero Five bs = bs
-- bits 7 to 14 of the halfword at 26
unread_zero Six bs = put 2 bs 26 (clean_half (le 2 bs 26))
-- bytes 18, 19 and 25 to 27
unread_zero LegacyServer bs = put 3 (put 2 bs 18 0) 25 0
-- bytes 18, 19 and 24 to 27
unread_zero LegacyGpu bs = put 4 (put 2 bs 18 0) 24 0
unread_zero Bad bs = bs

-- the header's bytes, with unread bits as 0
abbrev pub restored : HeaderType → List ℕ → List ℕ
restored t bs = take (header_size t) (unread_zero (layout_in t) bs)
