-- The words of the refusals. Assumes nothing.
use Rattle.std.specs.Prelude.{ℕ, ◌≤◌, List, [], ◌∷◌, length, get_or}
use Rattle.octets.specs.Text.{ascii}
use Rattle.rfc4737.specs.Refusals.{outside, refusal_if, asked_outside}

-- the words of refusal n at index n; index 0, which is no refusal, has none
abbrev pub all_words : List (List ℕ)
all_words =
    []
    ∷ ascii "the file ends before a count or a section does"
    ∷ ascii "octets follow the last section"
    ∷ ascii "label over 64 octets"
    ∷ ascii "K is 0 or over 4,096"
    ∷ ascii "over 4,096 arrivals"
    ∷ ascii "sequence number outside 1 to K; a short number over its width, or of which the number found is outside 1 to K"
    ∷ ascii "arrival time over 1,000 below the greatest earlier time"
    ∷ ascii "lent output too short"
    ∷ ascii "record outside 1 to A, n outside 1 to 100, a share's part outside 1 to its whole, or no such measure, refusal or outcome"
    ∷ ascii "state of a receiver or of a meter unfit, or a reordered packet with no greater kept jump"
    ∷ ascii "receiver has accepted 4,096 arrivals"
    ∷ ascii "lists of arrivals that differ in length: those of numbers and of times, or any two of the lists of fragments"
    ∷ ascii "a label octet outside hexadecimal 20 to 7E"
    ∷ ascii "a line not of the form, or a value over the field's range"
    ∷ ascii "a length that is no multiple of 25"
    ∷ ascii "a stream other than 1 or 2"
    ∷ ascii "a fragment of length 0, one with more to come and a length no multiple of 8, or one whose end is over 65,535"
    ∷ ascii "a written time whose seconds don't fit 32 bits"
    ∷ []

-- the words of a refusal
unfoldable pub words_of : ℕ → List ℕ
words_of refusal = get_or all_words refusal []

-- 128 octets suffice for the words of any refusal
pub record WordsFit : Type 0 where
  pub most : (refusal : ℕ) → length (words_of refusal) ≤ 128

-- 9 for a number that is no refusal; the refusals are 1 to 18
unfoldable pub asked_refusal : ℕ → ℕ
asked_refusal refusal = refusal_if (outside 1 18 refusal) asked_outside
