-- Of two times that are judged by 18, the greater decides (`greater`): a time that is not refused is not below one that is. g and t are
-- times, rs refusals. Assumes nothing.
use borrow.Author.Tests.{ltb-true, ltb-false}
use native.Mathlib.Omega.{arith}
use Prim.Native.Nat.{ℕ, ◌≤◌}
use mathlib.Core.Bool.{Bool, true, false, cond}
use mathlib.Core.Path.{◌≡◌, refl}
use mathlib.Core.List.{List, ◌∷◌, map}
use lib.Dec.{ltb}
use Rattle.rfc4737.specs.declared.Arrival.{Arrival}
use Rattle.rfc4737.specs.Times.{next_reference}
use Rattle.rfc4737.specs.Refusals.{refusal_if, first_refusal, seconds_over}
use Rattle.owamp.specs.Clock.{written_seconds}
use Rattle.owamp.specs.Judge.{seconds_most, judge_time}
use Rattle.owamp.specs.Calls.{arrivals_of_file}

-- a time that is not refused is not below one that is
apart : (g t : ℕ) → g ≤ t → ltb seconds_most (written_seconds g) ≡ true → ltb seconds_most (written_seconds t) ≡ false → ⊥
apart g t h p q = omega (arith, h, ltb-true seconds_most (written_seconds g) p, ltb-false seconds_most (written_seconds t) q)

pub greater : (g t : ℕ) (rs : List ℕ) → first_refusal (judge_time g ∷ judge_time t ∷ rs) ≡ first_refusal (judge_time (next_reference g t) ∷ rs)
unfolding judge_time next_reference
greater g t rs = go (ltb g t) refl (ltb seconds_most (written_seconds g)) refl (ltb seconds_most (written_seconds t)) refl
  where
    go : (b : Bool) → ltb g t ≡ b → (x : Bool) → ltb seconds_most (written_seconds g) ≡ x → (y : Bool)
        → ltb seconds_most (written_seconds t) ≡ y
        → first_refusal (refusal_if x seconds_over ∷ refusal_if y seconds_over ∷ rs)
        ≡ first_refusal (refusal_if (ltb seconds_most (written_seconds (cond b t g))) seconds_over ∷ rs)
    go true p true q true r = rw r
    go true p false q true r = rw r
    go true p false q false r = rw r
    go true p true q false r = let h : g ≤ t = omega (arith, ltb-true g t p) in absurd (apart g t h q r)
    go false p true q true r = rw q
    go false p true q false r = rw q
    go false p false q false r = rw q
    go false p false q true r = absurd (apart t g (ltb-false g t p) r q)

-- one arrival by 18
abbrev pub judge_arrival : Arrival → ℕ
judge_arrival a = judge_time a.time

-- the refusals of the arrivals, each by itself
abbrev pub refusals : List ℕ → List ℕ
refusals file = map judge_arrival (arrivals_of_file file)
