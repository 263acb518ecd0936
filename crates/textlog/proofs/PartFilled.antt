-- Two lists that are filled with the values of arrivals, one arrival after the other: after i of them they hold the values of the first i,
-- then what they held (`PartFilled`). An arrival that is the next of those left is
-- stored at i (`part-next`, by `rest-begins`: of a list whose rest from i on is x ∷ xs, x is element i); after all they are filled
-- (`part-done`).
-- Here l are the arrivals, a is one, value its number or its time; numbers₀ and times₀ are the lists before, with ' after the next.
-- Assumes nothing.
use Prim.Native.Nat.{ℕ, zero, suc, ◌+◌, ◌≤◌, ◌<◌}
use native.Mathlib.Nat.{add-zero}
use native.Mathlib.Omega.{arith}
use mathlib.Core.Path.{◌≡◌, refl, sym, ap, ◌∙◌}
use mathlib.Core.List.{List, [], ◌∷◌, ◌++◌, map}
use lib.ListN.{length, get_or, take, drop, length-drop, length-map}
use lib.Seq.{get_or-drop, drop-drop}
use Rattle.octets.specs.Memory.{over}
use Rattle.octets.proofs.Memory.{fill_done}
use Rattle.rfc4737.specs.declared.Arrival.{Arrival}
use Rattle.rfc4737.specs.Judge.{numbers_of, times_of}

-- ---- lists

module _ {ℓ} {A : Type ℓ} where
  -- what is left of a list from a place on: that place, its element, and what is left after it
  pub rest-begins : (l : List A) (i : ℕ) (z x : A) (xs : List A) → drop i l ≡ x ∷ xs
      → (i < length l) × (x ≡ get_or l i z) × (drop (i + 1) l ≡ xs)
  rest-begins l i z x xs e = (
    omega (arith, length-drop i l, ap length e),
    sym (ap (λ (k : ℕ). get_or l k z) (sym (add-zero i)) ∙ sym (get_or-drop i l 0 z) ∙ ap (λ (y : List A). get_or y 0 z) e),
    sym (drop-drop 1 i l) ∙ ap (drop 1) e,
  )

pub drop-map {ℓ} : {A B : Type ℓ} (f : A → B) (i : ℕ) (l : List A) → drop i (map f l) ≡ map f (drop i l)
drop-map f zero l = refl
drop-map f (suc i) [] = refl
drop-map f (suc i) (x ∷ l) = drop-map f i l

-- ---- the lists after i arrivals

pub record PartFilled (l : List Arrival) (numbers₀ times₀ : List ℕ) (i : ℕ) (numbers times : List ℕ) : Type 0 where
  pub some : i ≤ length l
  pub in_numbers : numbers ≡ take i (numbers_of l) ++ drop i numbers₀
  pub in_times : times ≡ take i (times_of l) ++ drop i times₀

pub part_none : (l : List Arrival) (numbers₀ times₀ : List ℕ) → PartFilled l numbers₀ times₀ 0 numbers₀ times₀
part_none l numbers₀ times₀ = record { some = omega arith; in_numbers = refl; in_times = refl }

module _ (l : List Arrival) (numbers₀ times₀ : List ℕ) (i : ℕ) (numbers times : List ℕ)
    (f : PartFilled l numbers₀ times₀ i numbers times) where
  -- no arrival is left
  pub part-done : drop i l ≡ [] → (numbers ≡ over (numbers_of l) numbers₀) × (times ≡ over (times_of l) times₀)
  part-done z =
      let s : length l ≡ i = omega (arith, f.some, ap length z, length-drop i l) in
      let p : length (numbers_of l) ≡ length l = length-map l _ in
      let q : length (times_of l) ≡ length l = length-map l _ in
      (fill_done (numbers_of l) numbers₀ i (omega arith) f.in_numbers, fill_done (times_of l) times₀ i (omega arith) f.in_times)

  -- the values of the next are stored
  pub part-next : (a : Arrival) (rest : List Arrival) → drop i l ≡ a ∷ rest → {numbers' times' : List ℕ}
      → ((xs : List ℕ) → a.number ≡ get_or xs i 0 → i < length xs → numbers ≡ take i xs ++ drop i numbers₀ → numbers' ≡ take (i + 1) xs
      ++ drop (i + 1) numbers₀)
      → ((xs : List ℕ) → a.time ≡ get_or xs i 0 → i < length xs → times ≡ take i xs ++ drop i times₀ → times' ≡ take (i + 1) xs
      ++ drop (i + 1) times₀)
      → PartFilled l numbers₀ times₀ (i + 1) numbers' times'
  part-next a rest e fn ft =
      let b = rest-begins l i a a rest e in
      let p = rest-begins (numbers_of l) i 0 a.number (numbers_of rest) (drop-map (λ (a : Arrival). a.number) i l ∙ ap numbers_of e) in
      let q = rest-begins (times_of l) i 0 a.time (times_of rest) (drop-map (λ (a : Arrival). a.time) i l ∙ ap times_of e) in
      record {
        some = omega (arith, b.0);
        in_numbers = fn (numbers_of l) p.1 p.0 f.in_numbers;
        in_times = ft (times_of l) q.1 q.0 f.in_times;
      }
