-- Arrivals as a list of numbers ns and a list of times ts of one length, by induction on both at once: if one ends before the other, the
-- lengths differ. i is an index, z what is read past the end. Assumes nothing.
use Prim.Native.Nat.{ℕ, zero, suc, ◌<◌}
use native.Mathlib.Omega.{arith}
use mathlib.Core.Path.{◌≡◌, refl, ap}
use mathlib.Core.Logic.{◌⊎◌, inl, inr}
use mathlib.Core.List.{List, [], ◌∷◌}
use lib.ListN.{length, get_or}
use Rattle.rfc4737.specs.declared.Arrival.{Arrival}
use Rattle.rfc4737.specs.Judge.{arrivals_from, numbers_of, times_of}

-- as many as each list has
pub arrivals-length : (ns ts : List ℕ) → length ts ≡ length ns → length (arrivals_from ns ts) ≡ length ns
unfolding arrivals_from
arrivals-length [] ts h = refl
arrivals-length (n ∷ ns) [] h = absurd (omega arith)
arrivals-length (n ∷ ns) (t ∷ ts) h = ap suc (arrivals-length ns ts (omega arith))

-- none if one of the lists has none
pub arrivals-none : (ns ts : List ℕ) → (length ns ≡ 0) ⊎ (length ts ≡ 0) → arrivals_from ns ts ≡ []
unfolding arrivals_from
arrivals-none [] ts e = refl
arrivals-none (n ∷ ns) [] e = refl
arrivals-none (n ∷ ns) (t ∷ ts) e = elim e [ inl h ↦ absurd (omega arith) | inr h ↦ absurd (omega arith) ]

-- each has the number and the time at its place
pub arrivals-get_or : (ns ts : List ℕ) (i : ℕ) (z : Arrival) → length ts ≡ length ns → i < length ns
    → record { number = get_or ns i 0; time = get_or ts i 0 } ≡ get_or (arrivals_from ns ts) i z
unfolding arrivals_from
arrivals-get_or [] ts i z h p = absurd (omega arith)
arrivals-get_or (n ∷ ns) [] i z h p = absurd (omega arith)
arrivals-get_or (n ∷ ns) (t ∷ ts) zero z h p = refl
arrivals-get_or (n ∷ ns) (t ∷ ts) (suc i) z h p = arrivals-get_or ns ts i z (omega arith) (omega arith)

-- their numbers are the first list
pub numbers-back : (ns ts : List ℕ) → length ts ≡ length ns → numbers_of (arrivals_from ns ts) ≡ ns
unfolding arrivals_from
numbers-back [] ts h = refl
numbers-back (n ∷ ns) [] h = absurd (omega arith)
numbers-back (n ∷ ns) (t ∷ ts) h = ap (λ (l : List ℕ). n ∷ l) (numbers-back ns ts (omega arith))

-- their times are the second list
pub times-back : (ns ts : List ℕ) → length ts ≡ length ns → times_of (arrivals_from ns ts) ≡ ts
unfolding arrivals_from
times-back [] [] h = refl
times-back [] (t ∷ ts) h = absurd (omega arith)
times-back (n ∷ ns) [] h = absurd (omega arith)
times-back (n ∷ ns) (t ∷ ts) h = ap (λ (l : List ℕ). t ∷ l) (times-back ns ts (omega arith))

-- the arrivals of their numbers and times are themselves
pub arrivals-back : (l : List Arrival) → arrivals_from (numbers_of l) (times_of l) ≡ l
unfolding arrivals_from
arrivals-back [] = refl
arrivals-back (a ∷ l) = ap (λ (k : List Arrival). a ∷ k) (arrivals-back l)
