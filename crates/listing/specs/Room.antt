-- The lengths that suffice for a line and for a listing, in octets. Assumes nothing.
use Rattle.std.specs.Prelude.{ℕ, ◌*◌}
use Rattle.rfc4737.specs.Judge.{arrivals_most}

-- the greatest length of a line, whatever its figures: `late`, six numbers of 32 bits, a time of 64 bits, an octet after each of these
-- eight fields, and a minus
abbrev pub line_most : ℕ
line_most = 93

-- the octets that suffice for any listing: 64 for each of 4,096 records. The longest line of a record has 61. The rest holds the first
-- line, of at most 24, and the last, of at most 38
abbrev pub listing_octets : ℕ
listing_octets = 64 * arrivals_most
