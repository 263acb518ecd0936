-- The form of a text log, defined without a reader: on each line a sequence number, a semicolon, an arrival time in milliseconds, and a
-- line feed. Assumes nothing.
use Prim.Native.Char.{code}
use Rattle.std.specs.Prelude.{ℕ, ◌+◌, ◌-◌, ◌*◌, ◌/◌, ◌%◌, ◌^◌, ◌≤◌, List, [], ◌∷◌, ◌++◌, length}
use Rattle.octets.specs.Text.{line_feed}
use Rattle.decimal.specs.Decimal.{decimal_of, decimal_value}
use Rattle.rfc4737.specs.declared.Arrival.{Arrival}
use Rattle.sample.specs.Format.{item_octets}

-- the octet `;`
abbrev pub semicolon : ℕ
semicolon = code ";"

-- the octet `,`
abbrev pub comma : ℕ
comma = code ","

-- the octet `.`
abbrev pub point : ℕ
point = code "."

-- ---- the form of a line, with the values that it gives

-- one or more decimal digits, `0` to `9`
pub data Digits : List ℕ → Type 0 where
  one : {o : ℕ} → 48 ≤ o → o ≤ 57 → Digits (o ∷ [])
  more : {o : ℕ} {ds : List ℕ} → 48 ≤ o → o ≤ 57 → Digits ds → Digits (o ∷ ds)

-- what may stand before the decimals
pub data DecimalMark : ℕ → Type 0 where
  by_comma : DecimalMark comma
  by_point : DecimalMark point

-- the microseconds in one to three decimals of a millisecond: `5` is 500, `05` is 50, `005` is 5
abbrev pub thousandths : List ℕ → ℕ
thousandths ds = decimal_value ds * 10 ^ (3 - length ds)

-- a time, with its microseconds: milliseconds, then optionally a comma or a point and one to three decimals
pub data Time : List ℕ → ℕ → Type 0 where
  whole : {ms : List ℕ} → Digits ms → Time ms (1000 * decimal_value ms)
  parted : {ms ds : List ℕ} {o : ℕ} → Digits ms → DecimalMark o → Digits ds → length ds ≤ 3
      → Time (ms ++ (o ∷ ds)) (1000 * decimal_value ms + thousandths ds)

-- a line, with its number and its time in microseconds
pub data Line : List ℕ → ℕ → ℕ → Type 0 where
  line : {ns ts : List ℕ} {time : ℕ} → Digits ns → Time ts time
      → Line (ns ++ (semicolon ∷ (ts ++ (line_feed ∷ [])))) (decimal_value ns) time

-- the greatest sequence number that its field holds
abbrev pub number_most : ℕ
number_most = 2 ^ 32 - 1

-- the greatest arrival time that its field holds, in microseconds
abbrev pub time_most : ℕ
time_most = 2 ^ 64 - 1

-- a line with the values of an arrival: it has the form, and the values fit their fields
pub record LineFits (l : List ℕ) (a : Arrival) : Type 0 where
  pub form : Line l a.number a.time
  pub number : a.number ≤ number_most
  pub time : a.time ≤ time_most

-- a log of arrivals: a line for each, one after the other
pub data Log : List ℕ → List Arrival → Type 0 where
  none : Log [] []
  after : {l log : List ℕ} {a : Arrival} {rest : List Arrival} → LineFits l a → Log log rest → Log (l ++ log) (a ∷ rest)

-- ---- the written form: three decimals after a comma, and no needless leading zeros

-- a number below 1,000 in three digits
abbrev pub three_digits : ℕ → List ℕ
three_digits n = (48 + n / 100) ∷ (48 + n / 10 % 10) ∷ (48 + n % 10) ∷ []

-- the line of an arrival
unfoldable pub arrival_line : Arrival → List ℕ
arrival_line a =
    decimal_of a.number
    ++ (semicolon ∷ (decimal_of (a.time / 1000) ++ (comma ∷ (three_digits (a.time % 1000) ++ (line_feed ∷ [])))))

-- the log of arrivals
abbrev pub log_of : List Arrival → List ℕ
log_of l = item_octets arrival_line l
