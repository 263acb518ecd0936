-- The outcome that C passes, read back. What was noted is read back (`read_back`): in each case by computation. And the answer for a line
-- (`line_refused`, `line-unknown`, `line_known`). n is what is noted, fs are its figures, read is the line as it is read, r the refusal
-- that is passed. Assumes nothing.
use Prim.Native.Nat.{ℕ, zero, suc, ◌^◌, ◌≤◌, ◌<◌}
use native.Mathlib.Omega.{arith}
use mathlib.Core.Path.{◌≡◌, refl, sym, subst, ◌∙◌}
use mathlib.Core.Bool.{true, false}
use mathlib.Core.List.{List, [], ◌∷◌}
use borrow.Author.Tests.{eq-eqb, ne_eqb, lt-ltb, le-ltb}
use lib.ListN.{get_or}
use Rattle.rfc4737.specs.declared.LateTime.{LateTime}
use Rattle.rfc4737.specs.declared.LateTime.TheVariants.{After, Before}
use Rattle.rfc4737.specs.Numbering.{by_direction, amount_of}
use Rattle.sample.specs.declared.WriteAnswer.{WriteAnswer}
use Rattle.sample.specs.Output.{Output}
use Rattle.sample.proofs.Output.{output-refused}
use Rattle.receiver.specs.declared.Outcome.{Outcome}
use Rattle.receiver.specs.declared.ReceiverAnswer.{ReceiverAnswer}
use Rattle.receiver.specs.declared.ReceiverAnswer.TheVariants.{Duplicate, InOrder, Exact, Beyond}
use Rattle.receiver.specs.Outcomes.{refused_outcome}
use Rattle.textlog.specs.declared.LogLine.{LogLine}
use Rattle.follow.specs.Text.{line_text}
use Rattle.capi.specs.Outcomes.{noted_figures, noted_in, outcome_told, fit_fields, same_figures, is_outcome, ReadBack}
use Rattle.capi.specs.Follow.{follow_refusal, follow_outcome}

-- ---- what is noted

-- a number above 4 is read as 5
pub noted-last : (kind jump extent late : ℕ) → 4 < kind
    → Beyond (record { extent = extent; late = Before late }) ≡ noted_in kind jump extent late
unfolding noted_in
noted-last zero jump extent late h = absurd (omega arith)
noted-last (suc zero) jump extent late h = absurd (omega arith)
noted-last (suc (suc zero)) jump extent late h = absurd (omega arith)
noted-last (suc (suc (suc zero))) jump extent late h = absurd (omega arith)
noted-last (suc (suc (suc (suc zero)))) jump extent late h = absurd (omega arith)
noted-last (suc (suc (suc (suc (suc n))))) jump extent late h = refl

exact-back : (extent : ℕ) (t : LateTime) → noted_in (by_direction 1 2 t) 0 extent (amount_of t) ≡ Exact (record { extent = extent; late = t })
unfolding noted_in
exact-back extent (After t) = refl
exact-back extent (Before t) = refl

beyond-back : (extent : ℕ) (t : LateTime)
    → noted_in (by_direction 4 5 t) 0 extent (amount_of t) ≡ Beyond (record { extent = extent; late = t })
unfolding noted_in
beyond-back extent (After t) = refl
beyond-back extent (Before t) = refl

noted_back : (n : ReceiverAnswer)
    → noted_in (get_or (noted_figures n) 0 0) (get_or (noted_figures n) 1 0) (get_or (noted_figures n) 2 0) (get_or (noted_figures n) 3 0) ≡ n
unfolding noted_in
noted_back Duplicate = refl
noted_back (InOrder jump) = refl
noted_back (Exact l) = exact-back l.extent l.late
noted_back (Beyond l) = beyond-back l.extent l.late

figures-same : (l : List ℕ) → same_figures l l ≡ true
unfolding same_figures
figures-same l =
    rw (
      eq-eqb (get_or l 0 0) (get_or l 0 0) refl,
      eq-eqb (get_or l 1 0) (get_or l 1 0) refl,
      eq-eqb (get_or l 2 0) (get_or l 2 0) refl,
      eq-eqb (get_or l 3 0) (get_or l 3 0) refl,
    ) refl

outcome-same : (o : Outcome) → outcome_told o.refusal (noted_figures o.noted) ≡ o
outcome-same o = λ i. record { refusal = o.refusal; noted = noted_back o.noted i }

outcome-known : (o : Outcome) → fit_fields o.refusal (noted_figures o.noted) ≡ true
    → is_outcome o.refusal (noted_figures o.noted) ≡ true
unfolding is_outcome
outcome-known o h = rw (h, noted_back o.noted) (figures-same (noted_figures o.noted))

pub read_back : ReadBack
read_back = record { known = outcome-known; same = outcome-same }

-- ---- refusal and figures of no outcome

module _ (r kind jump extent late : ℕ) where
  abbrev passed : List ℕ
  passed = kind ∷ jump ∷ extent ∷ late ∷ []

  pub over-refusal : 4294967295 < r → is_outcome r passed ≡ false
  unfolding is_outcome fit_fields
  over-refusal h = rw (le-ltb r (2 ^ 32) (omega (arith, h))) refl

  pub over-jump : r ≤ 4294967295 → 4294967295 < jump → is_outcome r passed ≡ false
  unfolding is_outcome fit_fields
  over-jump p h = rw (lt-ltb r (2 ^ 32) (omega (arith, p)), le-ltb jump (2 ^ 32) (omega (arith, h))) refl

  pub over-extent : r ≤ 4294967295 → jump ≤ 4294967295 → 4294967295 < extent → is_outcome r passed ≡ false
  unfolding is_outcome fit_fields
  over-extent p q h =
      rw (lt-ltb r (2 ^ 32) (omega (arith, p)), lt-ltb jump (2 ^ 32) (omega (arith, q)), le-ltb extent (2 ^ 32) (omega (arith, h))) refl

  -- where all fit, the figures decide
  pub by-figures : r ≤ 4294967295 → jump ≤ 4294967295 → extent ≤ 4294967295 → (n : ReceiverAnswer) → n ≡ noted_in kind jump extent late
      → same_figures (noted_figures n) passed ≡ is_outcome r passed
  unfolding is_outcome fit_fields
  by-figures p q s n e =
      rw (lt-ltb r (2 ^ 32) (omega (arith, p)), lt-ltb jump (2 ^ 32) (omega (arith, q)), lt-ltb extent (2 ^ 32) (omega (arith, s)), e) refl

-- ---- the answer for a line

module _ (read : LogLine) (r : ℕ) (fs : List ℕ) where
  -- the line is malformed
  module _ (h : read.refusal ≡ 0 → ⊥) where
    refused-own : 0 ≡ follow_refusal read r fs
    unfolding follow_refusal
    refused-own = rw (ne_eqb read.refusal 0 h) refl

    refused-outcome : refused_outcome read.refusal ≡ follow_outcome read r fs
    unfolding follow_outcome
    refused-outcome = rw (ne_eqb read.refusal 0 h) refl

    pub line_refused : (o : Outcome) → o ≡ refused_outcome read.refusal → {out out' : List ℕ} {answer : WriteAnswer}
        → Output 0 (line_text read o) out answer out'
        → Output (follow_refusal read r fs) (line_text read (follow_outcome read r fs)) out answer out'
    line_refused o e {out} {out'} {answer} w =
        subst (λ (own : ℕ). Output own (line_text read (follow_outcome read r fs)) out answer out') refused-own
        (subst (λ (p : Outcome). Output 0 (line_text read p) out answer out') (e ∙ refused-outcome) w)

  module _ (z : read.refusal ≡ 0) where
    -- what is passed is no outcome
    unknown-own : is_outcome r fs ≡ false → 9 ≡ follow_refusal read r fs
    unfolding follow_refusal
    unknown-own u = rw (eq-eqb read.refusal 0 z, u) refl

    pub line-unknown : is_outcome r fs ≡ false → (a : WriteAnswer) → a ≡ record { refusal = 9; length = 0 } → (out : List ℕ)
        → Output (follow_refusal read r fs) (line_text read (follow_outcome read r fs)) out a out
    line-unknown u a e out =
        subst (λ (b : WriteAnswer). Output (follow_refusal read r fs) (line_text read (follow_outcome read r fs)) out b out) (sym e)
        (output-refused (follow_refusal read r fs) (line_text read (follow_outcome read r fs)) out 9 (unknown-own u) (λ p. omega (arith, p)))

    -- it is one
    known-own : is_outcome r fs ≡ true → 0 ≡ follow_refusal read r fs
    unfolding follow_refusal
    known-own k = rw (eq-eqb read.refusal 0 z, k) refl

    known-outcome : outcome_told r fs ≡ follow_outcome read r fs
    unfolding follow_outcome
    known-outcome = rw (eq-eqb read.refusal 0 z) refl

    pub line_known : is_outcome r fs ≡ true → (o : Outcome) → o ≡ outcome_told r fs → {out out' : List ℕ} {answer : WriteAnswer}
        → Output 0 (line_text read o) out answer out'
        → Output (follow_refusal read r fs) (line_text read (follow_outcome read r fs)) out answer out'
    line_known k o e {out} {out'} {answer} w =
        subst (λ (own : ℕ). Output own (line_text read (follow_outcome read r fs)) out answer out') (known-own k)
        (subst (λ (p : Outcome). Output 0 (line_text read p) out answer out') (e ∙ known-outcome) w)

-- four figures in a list are read from it
abbrev four : List ℕ → List ℕ
four l = get_or l 0 0 ∷ get_or l 1 0 ∷ get_or l 2 0 ∷ get_or l 3 0 ∷ []

refusal-four : (read : LogLine) (r : ℕ) (l : List ℕ) → follow_refusal read r (four l) ≡ follow_refusal read r l
unfolding follow_refusal is_outcome fit_fields same_figures
refusal-four read r l = refl

outcome-four : (read : LogLine) (r : ℕ) (l : List ℕ) → follow_outcome read r (four l) ≡ follow_outcome read r l
unfolding follow_outcome
outcome-four read r l = refl

pub line_read : (read line : LogLine) (r : ℕ) (l : List ℕ) → read ≡ line → {out out' : List ℕ} {answer : WriteAnswer}
    → Output (follow_refusal read r (four l)) (line_text read (follow_outcome read r (four l))) out answer out'
    → Output (follow_refusal line r l) (line_text line (follow_outcome line r l)) out answer out'
line_read read line r l e {out} {out'} {answer} w =
    subst (λ (x : LogLine). Output (follow_refusal x r l) (line_text x (follow_outcome x r l)) out answer out') e
    (subst (λ (own : ℕ). Output own (line_text read (follow_outcome read r l)) out answer out') (refusal-four read r l)
    (subst (λ (o : Outcome). Output (follow_refusal read r (four l)) (line_text read o) out answer out') (outcome-four read r l) w))
