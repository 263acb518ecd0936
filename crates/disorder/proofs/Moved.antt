-- Moving the clock by c does not change the total of disorder: the first arrivals of the moved arrivals are the moved first arrivals
-- (rfc4737's `firsts-moved`), and whether a pair is wrong depends only on its numbers (`wrong-moved`, by induction over the arrivals). fs
-- are first arrivals, s is the sample. Assumes nothing.
use Prim.Native.Nat.{ℕ, ◌+◌}
use native.Mathlib.Omega.{arith}
use mathlib.Core.Path.{◌≡◌, refl, sym, ap, ◌∙◌}
use mathlib.Core.List.{List, [], ◌∷◌}
use lib.Dec.{ltb}
use Rattle.octets.specs.Below.{Octets}
use Rattle.rfc4737.specs.declared.Arrival.{Arrival}
use Rattle.rfc4737.specs.Arrivals.{firsts}
use Rattle.rfc4737.specs.Moved.{moved_one, moved}
use Rattle.rfc4737.proofs.Moved.{firsts-moved}
use Rattle.sample.proofs.Moved.{moved-accepted}
use Rattle.disorder.specs.Disorder.{wrong_pairs}
use Rattle.disorder.specs.Sample.{disorder_of, sample_disorder, DisorderMoved}
use Rattle.disorder.proofs.Disorder.{count_map, lower, wrong-cons}

wrong-moved : (c : ℕ) (fs : List Arrival) → wrong_pairs (moved c fs) ≡ wrong_pairs fs
wrong-moved c [] = refl
wrong-moved c (a ∷ fs) =
    let n : wrong_pairs (moved c (a ∷ fs)) ≡ lower a.number (moved c fs) + wrong_pairs (moved c fs) =
    wrong-cons (moved_one c a) (moved c fs) in
    let e : lower a.number (moved c fs) ≡ lower a.number fs =
    count_map (λ (b : Arrival). ltb b.number a.number) (moved_one c) fs in
    omega (arith, n, e, wrong-cons a fs, wrong-moved c fs)

-- as `total` carries it, of a file of octets
pub disorder-moved : (file : List ℕ) → Octets file → DisorderMoved file
unfolding sample_disorder disorder_of
disorder-moved file o s c e t =
    ap sample_disorder (moved-accepted file o s c e t)
    ∙ ap (λ (n : ℕ). record { refusal = 0; total = n }) (ap wrong_pairs (firsts-moved c s.arrivals)
    ∙ wrong-moved c (firsts s.arrivals))
    ∙ ap sample_disorder (sym e)
