-- The least size of a buffer with which a receiver that restores order accommodates a share of the first arrivals, part in whole: the
-- point of the cumulative distribution that RFC 4737 names in sections 4.3.4 and 4.4.4, over the first arrivals. Assumes nothing.
use Rattle.std.specs.Prelude.{ℕ, zero, suc, ◌+◌, ◌*◌, ◌≤◌, ◌<◌, ◌≡◌, cond, List, [], leb}
use Rattle.rfc4737.specs.declared.Answer.{Answer}
use Rattle.rfc4737.specs.Refusals.{outside}
use Rattle.rfc4737.specs.Runs.{arrived}
use Rattle.sample.specs.Decode.{Decoded}
use Rattle.rfc4737.specs.declared.Measure.{Measure}
use Rattle.metrics.specs.Sample.{answers_of}
use Rattle.metrics.specs.Figures.{asked_refusal}
use Rattle.rfc4737.specs.Needs.{accommodated, greatest_need}
use Rattle.buffering.specs.declared.SampleLeast.{SampleLeast}

-- the first size from `size` on that accommodates at least `part` in `whole` of the first arrivals; at most `steps` sizes are tried
unfoldable pub first_enough : Measure → ℕ → ℕ → List Answer → (steps size : ℕ) → ℕ
first_enough m part whole l zero size = size
first_enough m part whole l (suc steps) size =
    cond (leb (part * arrived l) (whole * accommodated m size l)) size (first_enough m part whole l steps (size + 1))

-- the least size that is enough: the first from 0 on; the greatest need always is
unfoldable pub least_size : Measure → ℕ → ℕ → List Answer → ℕ
least_size m part whole l = first_enough m part whole l (greatest_need m l) 0

-- ---- the call

-- the answers over which a share is asked for: none if `part` is outside 1 to `whole`
abbrev pub share_answers : Decoded → ℕ → ℕ → List Answer
share_answers d part whole = cond (outside 1 whole part) [] (answers_of d)

-- the refusal is the file's own, else 9; the size is the least, and 0 if there are no answers
unfoldable pub sample_least : Decoded → Measure → ℕ → ℕ → SampleLeast
sample_least d m part whole =
    record { refusal = asked_refusal d 1 whole part; size = least_size m part whole (share_answers d part whole) }

-- ---- theorems on the least size

-- a buffer of this size accommodates at least `part` in `whole` of the first arrivals
abbrev pub Enough : Measure → ℕ → ℕ → List Answer → ℕ → Type 0
Enough m part whole l size = part * arrived l ≤ whole * accommodated m size l

-- the least such size: it is enough, and no smaller one is
pub record Least (m : Measure) (part whole : ℕ) (l : List Answer) (size : ℕ) : Type 0 where
  pub enough : Enough m part whole l size
  pub least : (smaller : ℕ) → smaller < size → Enough m part whole l smaller → ⊥

-- the call returns the least size
abbrev pub SizesAreLeast : Type 0
SizesAreLeast = (m : Measure) (part whole : ℕ) (l : List Answer) → part ≤ whole → Least m part whole l (least_size m part whole l)

-- there is one least size
pub record OneLeast : Type 0 where
  pub same : (m : Measure) (part whole : ℕ) (l : List Answer) (a b : ℕ) → Least m part whole l a → Least m part whole l b → a ≡ b

-- a greater buffer accommodates no less
pub record MoreIsNoWorse : Type 0 where
  pub more : (m : Measure) (l : List Answer) (a b : ℕ) → a ≤ b → accommodated m a l ≤ accommodated m b l

-- the least size for all first arrivals is the greatest need
pub record AllIsGreatest : Type 0 where
  pub all : (m : Measure) (l : List Answer) (n : ℕ) → 1 ≤ n → Least m n n l (greatest_need m l)
