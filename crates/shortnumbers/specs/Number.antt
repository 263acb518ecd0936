-- The full number of a short one, by the idea of RFC 4737, section 6. A short number has the lowest w bits of its full number; r is their
-- range, 2 to the w, and g the greatest full number accepted so far, 0 at the start. Assumes nothing.
use Rattle.std.specs.Prelude.{ℕ, ◌+◌, ◌-◌, ◌^◌, ◌/◌, ◌%◌, ◌≤◌, ◌<◌, cond, ◌≡◌, ltb}

-- the range of w bits
abbrev pub range_of : ℕ → ℕ
range_of w = 2 ^ w

-- the short number of a full one: its lowest bits
abbrev pub short_of : ℕ → ℕ → ℕ
short_of r n = n % r

-- n is from half the range below g to less than half the range above it
pub record Near (r g n : ℕ) : Type 0 where
  pub from : g ≤ n + r / 2
  pub below : n < g + r / 2

-- n is the full number of x: it has these low bits and is within that distance of g
pub record FullNumber (r g x n : ℕ) : Type 0 where
  pub bits : short_of r n ≡ x
  pub near : Near r g n

-- the number found: the greatest number below g + r / 2 with those low bits; 0, which is no packet's number, where x is over its width
-- or there is none. ExactNumber says all that is to be believed of it
unfoldable pub number_found : (r g x : ℕ) → ℕ
number_found r g x =
    let top = g + r / 2 - 1 in
    cond (ltb x r) (top - (top + (r - x)) % r) 0

-- the number found is the full number, and the only one, over a range
pub record ExactNumber (r : ℕ) : Type 0 where
  -- wherever it is a packet's number, it is the full number
  pub full : (g x : ℕ) → 1 ≤ number_found r g x → FullNumber r g x (number_found r g x)
  -- any full number is the one found
  pub only : (g x n : ℕ) → FullNumber r g x n → n ≡ number_found r g x
