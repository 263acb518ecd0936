-- Definitions for the contracts of private functions, which no public contract reaches: the readings of which a file's check is made.
-- Assumes nothing.
use Rattle.std.specs.Prelude.{ℕ, cond, Option, None, Some, List, ltb, length}
use Rattle.sample.specs.Format.{end_of}
use Rattle.sample.specs.Decode.{count_at}
use Rattle.sample.specs.declared.sections.Section.{Section}

-- the value n, read from octets before offset `place`, unless the file ends before that offset
unfoldable pub reading_to : (place n : ℕ) → List ℕ → Option ℕ
reading_to place n file = cond (ltb (length file) place) None (Some n)

-- the section that begins at offset `at`, with items of `width` octets: its count, and the offset after it
abbrev pub section_of : (at width : ℕ) → List ℕ → Section
section_of at width file = record { count = count_at at file; end = end_of at width (count_at at file) }
