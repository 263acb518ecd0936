-- Disorder of arrivals: pairs that came in the wrong order, the sum of the byte offsets, and the least number of exchanges of neighbours.
-- Assumes nothing.
use Rattle.std.specs.Prelude.{ℕ, suc, ◌+◌, ◌≤◌, ◌<◌, ◌≡◌, Bool, ltb}
use mathlib.Core.List.{List, [], ◌∷◌, ◌++◌, map, foldl}
use Rattle.rfc4737.specs.declared.Arrival.{Arrival}
use Rattle.rfc4737.specs.declared.Answer.{Answer}
use Rattle.rfc4737.specs.declared.Answer.TheVariants.{Duplicate, InOrder, Reordered}
use Rattle.rfc4737.specs.Arrivals.{firsts, count}
use Rattle.rfc4737.specs.Answer.{answers}

-- the byte offset of an answer: that of a reordered packet, else 0
abbrev pub offset_in : Answer → ℕ
offset_in (Duplicate d) = 0
offset_in (InOrder d) = 0
offset_in (Reordered d) = d.offset

-- the sum of the byte offsets of a sample
unfoldable pub offset_sum : List Answer → ℕ
offset_sum l = foldl (λ (n : ℕ) (a : Answer). n + offset_in a) 0 l

-- all pairs of arrivals, the earlier one of each pair first
unfoldable pub pairs : List Arrival → List (Arrival × Arrival)
pairs [] = []
pairs (a ∷ l) = map (λ (b : Arrival). (a, b)) l ++ pairs l

-- whether a pair came in the wrong order: the later arrival has the smaller number
abbrev pub is_wrong : Arrival × Arrival → Bool
is_wrong p = ltb p.1.number p.0.number

-- the number of pairs in the wrong order
unfoldable pub wrong_pairs : List Arrival → ℕ
wrong_pairs fs = count is_wrong (pairs fs)

-- the second list is the first with two neighbours exchanged
pub data Exchange : List Arrival → List Arrival → Type 0 where
  here : {a b : Arrival} {l : List Arrival} → Exchange (a ∷ b ∷ l) (b ∷ a ∷ l)
  after : {a : Arrival} {l m : List Arrival} → Exchange l m → Exchange (a ∷ l) (a ∷ m)

-- n exchanges of neighbours lead from the first list to the second
pub data Exchanges : ℕ → List Arrival → List Arrival → Type 0 where
  none : {l : List Arrival} → Exchanges 0 l l
  one : {n : ℕ} {k l m : List Arrival} → Exchange k l → Exchanges n l m → Exchanges (suc n) k m

-- the numbers rise: each is less than the next
abbrev pub Rising : List Arrival → Type 0
Rising [] = Unit
Rising (a ∷ []) = Unit
Rising (a ∷ b ∷ l) = (a.number < b.number) × Rising (b ∷ l)

-- n is the least number of exchanges of neighbours that puts arrivals in rising order
pub record Least (fs : List Arrival) (n : ℕ) : Type 0 where
  pub order : List Arrival
  pub rises : Rising order
  pub reached : Exchanges n fs order
  pub least : (m : ℕ) (gs : List Arrival) → Rising gs → Exchanges m fs gs → n ≤ m

-- with every payload size 1 the sum of the byte offsets is the number of pairs of first arrivals in the wrong order
abbrev pub OffsetsCountPairs : Type 0
OffsetsCountPairs = (l : List Arrival) → offset_sum (answers (λ _. 1) l) ≡ wrong_pairs (firsts l)

-- that number is the least number of exchanges of neighbouring first arrivals that puts them in rising order
abbrev pub PairsAreLeast : Type 0
PairsAreLeast = (l : List Arrival) → Least (firsts l) (wrong_pairs (firsts l))
