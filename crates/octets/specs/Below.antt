-- Lists of numbers that are all below a bound, as the elements of a slice of an unsigned type are. Assumes nothing.
use Rattle.std.specs.Prelude.{ℕ, ◌<◌, List, get_or}

-- every element is below n. What is read past the end is 0, so n is not 0
abbrev pub Below : ℕ → List ℕ → Type 0
Below n l = (i : ℕ) → get_or l i 0 < n

-- every element is an octet
abbrev pub Octets : List ℕ → Type 0
Octets l = Below 256 l
