-- The octets of the report that are no figures, in ASCII: its words, the space between fields and the minus of a late time.
-- Assumes nothing.
use Prim.Native.Char.{code}
use Rattle.std.specs.Prelude.{ℕ, List}
use Rattle.octets.specs.Text.{ascii}

-- the octet between two fields
abbrev pub space : ℕ
space = code " "

-- the octet in front of the amount of a late time that is before
abbrev pub minus : ℕ
minus = code "-"

-- the octets of the words
abbrev pub sent_word : List ℕ
sent_word = ascii "sent"

abbrev pub arrivals_word : List ℕ
arrivals_word = ascii "arrivals"

abbrev pub in_word : List ℕ
in_word = ascii "in"

abbrev pub late_word : List ℕ
late_word = ascii "late"

abbrev pub copy_word : List ℕ
copy_word = ascii "copy"

abbrev pub end_word : List ℕ
end_word = ascii "end"

abbrev pub refused_word : List ℕ
refused_word = ascii "refused"
