-- A Fenwick tree: index i holds the sum of the values at the numbers above `rest i` and at most i. Assumes nothing.
use Rattle.std.specs.Prelude.{◌≡◌, ℕ, zero, suc, ◌+◌, ◌-◌, ◌%◌, ◌^◌, ◌<◌, ◌≤◌, cond, ◌&&◌, List, [], ◌∷◌, length, replicate, bit_and, nat_le, nat_lt, slice_index}

-- a number with its lowest set bit cleared
unfoldable pub rest : ℕ → ℕ
rest i = bit_and i (i - 1)

-- what index i takes of `value` at `number`: all of it if the number is above `rest i` and at most i, else nothing
unfoldable pub share : (number value i : ℕ) → ℕ
share number value i = cond (nat_lt (rest i) number) (cond (nat_le number i) value 0) 0

-- `new` is `old` after `value` was added at `number`
pub record Added (number value : ℕ) (old new : List ℕ) : Type 0 where
  pub places : length new ≡ length old
  pub at : (i : ℕ) → i < length old → slice_index new i ≡ (slice_index old i + share number value i) % 2 ^ 32

-- the sum of what the tree holds at the indices i, `rest i`, `rest (rest i)` and so on, down to 0; `fuel` bounds their number
unfoldable pub parts_to : (fuel : ℕ) (tree : List ℕ) (i : ℕ) → ℕ
parts_to zero tree i = 0
parts_to (suc fuel) tree zero = 0
parts_to (suc fuel) tree (suc i) = slice_index tree (suc i) + parts_to fuel tree (rest (suc i))

-- this sum, wrapped; 0 if the tree has no index `number`. `ExactSum` says what it sums
unfoldable pub sum_to : (tree : List ℕ) (number : ℕ) → ℕ
sum_to tree number = cond (nat_lt number (length tree)) (parts_to number tree number % 2 ^ 32) 0

-- a tree holds the sums of values, where f i is the sum of those at the numbers above i
pub record Summed (f : ℕ → ℕ) (tree : List ℕ) : Type 0 where
  pub at : (i : ℕ) → 1 ≤ i → i < length tree → slice_index tree i + f i ≡ f (rest i)

-- ---- that the sum is one

-- a tree of zeros to which these pairs of number and value were added; the pair added last comes first
pub data Holds : List (ℕ × ℕ) → List ℕ → Type 0 where
  nothing : (places : ℕ) → Holds [] (replicate places 0)
  more : {a : ℕ × ℕ} {vs : List (ℕ × ℕ)} {old new : List ℕ} → Added a.0 a.1 old new → Holds vs old → Holds (a ∷ vs) new

-- the sum of the values at the numbers from 1 to n
unfoldable pub values_to : (n : ℕ) → List (ℕ × ℕ) → ℕ
values_to n [] = 0
values_to n (a ∷ vs) = cond (nat_le 1 a.0 && nat_le a.0 n) a.1 0 + values_to n vs

-- `sum` is the sum of the values at the numbers from 1 to `number`, modulo 2^32, whatever values were added to a tree of zeros. The tree
-- has an index `number`
abbrev pub ExactSum : (tree : List ℕ) (number sum : ℕ) → Type 0
ExactSum tree number sum = (vs : List (ℕ × ℕ)) → Holds vs tree → number < length tree → sum ≡ values_to number vs % 2 ^ 32
