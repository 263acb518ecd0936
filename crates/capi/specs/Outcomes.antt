-- What a receiver or a meter notes of an arrival, for C: the number of the case, jump size, extent, and amount of the late time. Figures
-- that a case lacks are 0. And the outcome read back from its refusal and these figures. Assumes nothing.
use Rattle.std.specs.Prelude.{ℕ, zero, suc, ◌^◌, Bool, true, ◌&&◌, List, [], ◌∷◌, ◌≡◌, ltb, eqb, get_or}
use Rattle.rfc4737.specs.declared.LateTime.TheVariants.{After, Before}
use Rattle.receiver.specs.declared.Lateness.{Lateness}
use Rattle.receiver.specs.declared.Outcome.{Outcome}
use Rattle.receiver.specs.declared.ReceiverAnswer.{ReceiverAnswer}
use Rattle.receiver.specs.declared.ReceiverAnswer.TheVariants.{Duplicate, InOrder, Exact, Beyond}
use Rattle.rfc4737.specs.Numbering.{amount_of}
use Rattle.receiver.specs.Numbering.{noted_number}

-- a reordered packet whose case has number n; the case tells the direction of the late time
abbrev pub late_figures : ℕ → Lateness → List ℕ
late_figures n l = n ∷ 0 ∷ l.extent ∷ amount_of l.late ∷ []

-- what is noted
abbrev pub noted_figures : ReceiverAnswer → List ℕ
noted_figures Duplicate = noted_number Duplicate ∷ 0 ∷ 0 ∷ 0 ∷ []
noted_figures (InOrder jump) = noted_number (InOrder jump) ∷ jump ∷ 0 ∷ 0 ∷ []
noted_figures (Exact l) = late_figures (noted_number (Exact l)) l
noted_figures (Beyond l) = late_figures (noted_number (Beyond l)) l

-- ---- read back

-- what is noted in the case with number `kind`, with those of the figures that the case has. No case has a number above 5, which is refused
-- (`is_outcome`), so its value here does not matter
unfoldable pub noted_in : (kind jump extent late : ℕ) → ReceiverAnswer
noted_in zero jump extent late = InOrder jump
noted_in (suc zero) jump extent late = Exact (record { extent = extent; late = After late })
noted_in (suc (suc zero)) jump extent late = Exact (record { extent = extent; late = Before late })
noted_in (suc (suc (suc zero))) jump extent late = Duplicate
noted_in (suc (suc (suc (suc zero)))) jump extent late = Beyond (record { extent = extent; late = After late })
noted_in (suc (suc (suc (suc (suc n))))) jump extent late = Beyond (record { extent = extent; late = Before late })

-- the outcome with a refusal and figures
abbrev pub outcome_told : (refusal : ℕ) (figures : List ℕ) → Outcome
outcome_told refusal figures =
    record { refusal = refusal; noted = noted_in (get_or figures 0 0) (get_or figures 1 0) (get_or figures 2 0) (get_or figures 3 0) }

-- whether the refusal, the jump size and the extent fit 32 bits
unfoldable pub fit_fields : (refusal : ℕ) (figures : List ℕ) → Bool
fit_fields refusal figures = ltb refusal (2 ^ 32) && (ltb (get_or figures 1 0) (2 ^ 32) && ltb (get_or figures 2 0) (2 ^ 32))

-- whether two lists have the same four figures
unfoldable pub same_figures : List ℕ → List ℕ → Bool
same_figures a b =
    eqb (get_or a 0 0) (get_or b 0 0) && (eqb (get_or a 1 0) (get_or b 1 0) && (eqb (get_or a 2 0) (get_or b 2 0) && eqb (get_or a 3 0) (get_or b 3 0)))

-- whether these are a refusal and figures of an outcome: they fit its fields, and its figures are these
unfoldable pub is_outcome : (refusal : ℕ) (figures : List ℕ) → Bool
is_outcome refusal figures =
    fit_fields refusal figures && same_figures (noted_figures (outcome_told refusal figures).noted) figures

-- what was noted is read back: each outcome that fits its fields is the one with its refusal and its figures
pub record ReadBack : Type 0 where
  pub known : (o : Outcome) → fit_fields o.refusal (noted_figures o.noted) ≡ true
      → is_outcome o.refusal (noted_figures o.noted) ≡ true
  pub same : (o : Outcome) → outcome_told o.refusal (noted_figures o.noted) ≡ o
