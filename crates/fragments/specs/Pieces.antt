-- Arrivals of packets that may be fragmented on the way (RFC 4737, section B.2), and copies among them. Assumes nothing.
use Rattle.std.specs.Prelude.{ℕ, ◌+◌, ◌*◌, Bool, false, cond, ◌&&◌, ◌||◌, eqb, get_or, drop}
use mathlib.Core.List.{List, [], ◌∷◌, flatten}
use Rattle.std.specs.Borrow.{Bor}
use Rattle.rfc4737.specs.declared.Arrival.{Arrival}
use Rattle.rfc4737.specs.Arrivals.{each}
use Rattle.fragments.specs.declared.Piece.{Piece}

-- the arrivals of lists of numbers, times, lengths, more-fragments flags and fragment offsets
unfoldable pub pieces_of : List ℕ → List ℕ → List ℕ → List ℕ → List ℕ → List Piece
pieces_of [] times lengths mores offsets = []
pieces_of (n ∷ ns) times lengths mores offsets =
    record { number = n; time = get_or times 0 0; length = get_or lengths 0 0; more = get_or mores 0 0; offset = get_or offsets 0 0 }
    ∷ pieces_of ns (drop 1 times) (drop 1 lengths) (drop 1 mores) (drop 1 offsets)

-- the arrivals of the caller's five lists
abbrev pub pieces_in : Bor (List ℕ) → Bor (List ℕ) → Bor (List ℕ) → Bor (List ℕ) → Bor (List ℕ) → List Piece
pieces_in numbers times lengths mores offsets = pieces_of numbers.now times.now lengths.now mores.now offsets.now

-- the number and the time of an arrival
abbrev pub arrival_of : Piece → Arrival
arrival_of a = record { number = a.number; time = a.time }

-- a last fragment: no more are to come
abbrev pub is_last : Piece → Bool
is_last a = eqb a.more 0

-- a whole packet: no more to come, and no offset; any other arrival is a fragment
abbrev pub is_whole : Piece → Bool
is_whole a = is_last a && eqb a.offset 0

-- the offset of the first octet of an arrival in its packet; fragment offsets count units of 8 octets
abbrev pub piece_start : Piece → ℕ
piece_start a = 8 * a.offset

-- the offset after the last octet
abbrev pub piece_end : Piece → ℕ
piece_end a = 8 * a.offset + a.length

module _ {ℓ} {A : Type ℓ} where
  -- whether any element passes a test
  unfoldable pub any : (A → Bool) → List A → Bool
  any p [] = false
  any p (a ∷ l) = p a || any p l

-- whether arrival a is a copy of an earlier b: both have the same number, fragment offset and length. For two whole packets the number
-- alone decides
unfoldable pub copies : Piece → Piece → Bool
copies a b = eqb b.number a.number && (is_whole a && is_whole b || eqb b.offset a.offset && eqb b.length a.length)

-- a duplicate: a copy of any earlier arrival
unfoldable pub is_copy : List Piece → Piece → Bool
is_copy earlier a = any (copies a) earlier

-- an arrival, unless it is a copy
unfoldable pub first_after : List Piece → Piece → List Piece
first_after earlier a = cond (is_copy earlier a) [] (a ∷ [])

-- the arrivals that are no copies
unfoldable pub no_copies : List Piece → List Piece
no_copies l = flatten (each first_after l)
