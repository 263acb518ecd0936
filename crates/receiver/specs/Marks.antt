-- A mark for each packet, one bit of a list of words of 64 bits: packet 1 has the lowest bit of the first word.
-- Assumes nothing.
use Rattle.std.specs.Prelude.{ℕ, ◌-◌, ◌/◌, ◌%◌, ◌^◌, Bool, List, eqb, get_or, set}
use Rattle.std.specs.Int.Bits.{bit_or}

-- the number of words: a bit for each of 4,096 packets
abbrev pub mark_words : ℕ
mark_words = 64

-- the index of the word of packet s
abbrev pub word_of : ℕ → ℕ
word_of s = (s - 1) / 64

-- the index of its bit in that word
abbrev pub bit_of : ℕ → ℕ
bit_of s = (s - 1) % 64

-- whether packet s is marked
unfoldable pub mark_at : List ℕ → ℕ → Bool
mark_at marks s = eqb (get_or marks (word_of s) 0 / 2 ^ bit_of s % 2) 1

-- the marks with packet s marked
unfoldable pub with_mark : List ℕ → ℕ → List ℕ
with_mark marks s = set marks (word_of s) (bit_or (get_or marks (word_of s) 0) (2 ^ bit_of s))
