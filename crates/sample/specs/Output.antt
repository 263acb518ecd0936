-- The answer of a call that writes octets, and the caller's buffer after it. Assumes nothing.
use Rattle.std.specs.Prelude.{ℕ, zero, suc, Result, Ok, Err, List, [], ◌∷◌, ◌≡◌, ltb, length}
use Rattle.octets.specs.Memory.{over}
use Rattle.rfc4737.specs.declared.refusal.Refusal.{Refusal}
use Rattle.rfc4737.specs.Refused.{number_of}
use Rattle.rfc4737.specs.Refusals.{refusal_if, first_refusal, output_short}
use Rattle.sample.specs.declared.WriteAnswer.{WriteAnswer}

-- the answer of a writer: the number of octets written, or the refusal's number and 0
abbrev pub answer_in : Result ℕ Refusal → WriteAnswer
answer_in (Ok length) = record { refusal = 0; length = length }
answer_in (Err refusal) = record { refusal = number_of refusal; length = 0 }

module _ {ℓ} {A : Type ℓ} where
  -- `done` if `refusal` is 0, else `kept`
  abbrev pub if_none : (refusal : ℕ) (done kept : A) → A
  if_none zero done kept = done
  if_none (suc r) done kept = kept

-- a call has the refusal `own` (0 for none) and the octets `os` to write. Its buffer holds `out` before it and out' after it
pub record Output (own : ℕ) (os out : List ℕ) (answer : WriteAnswer) (out' : List ℕ) : Type 0 where
  -- the refusal: `own` comes first, then 8
  pub refusal : answer.refusal ≡ first_refusal (own ∷ refusal_if (ltb (length out) (length os)) output_short ∷ [])
  -- the number of octets written; 0 with a refusal
  pub octets : answer.length ≡ if_none answer.refusal (length os) 0
  -- the octets stand at the start of the buffer, and all else is as it was; with a refusal all is as it was
  pub filled : out' ≡ if_none answer.refusal (over os out) out
