-- What the call returns, and what the caller's lists hold after it. Assumes nothing.
use Rattle.std.specs.Prelude.{ℕ, Bool, not, ◌&&◌, ◌||◌, List, [], ◌∷◌, ◌≡◌, ltb, eqb, length}
use Rattle.octets.specs.Memory.{over}
use Rattle.rfc4737.specs.Refusals.{refusal_if, first_refusal, lists_differ, output_short}
use Rattle.rfc4737.specs.Judge.{judge_sent, judge_arrivals}
use Rattle.sample.specs.Output.{if_none}
use Rattle.fragments.specs.Pieces.{pieces_of}
use Rattle.fragments.specs.Order.{flags}
use Rattle.fragments.specs.Usable.{usable}
use Rattle.fragments.specs.Judge.{judge_pieces}

-- whether four lists have length n
unfoldable pub same_lengths : ℕ → ℕ → ℕ → ℕ → ℕ → Bool
same_lengths n times lengths mores offsets = eqb n times && (eqb n lengths && (eqb n mores && eqb n offsets))

-- the first refusal that applies: 4, 5 (by the list of numbers), 12, the arrivals in turn, 8
unfoldable pub order_refusal : ℕ → List ℕ → List ℕ → List ℕ → List ℕ → List ℕ → ℕ → ℕ → ℕ
order_refusal k numbers times lengths mores offsets flag_room usable_room =
    first_refusal
    (judge_sent k
    ∷ judge_arrivals (length numbers)
    ∷ refusal_if (not (same_lengths (length numbers) (length times) (length lengths) (length mores) (length offsets))) lists_differ
    ∷ judge_pieces k (pieces_of numbers times lengths mores offsets)
    ∷ refusal_if (ltb flag_room (length numbers) || ltb usable_room (length numbers)) output_short
    ∷ [])

-- the answer, and the caller's two lists after it, which begin with the values; the rest is unchanged
pub record OrderedTo (k : ℕ) (numbers times lengths mores offsets flagged used : List ℕ) (answer : ℕ)
    (flagged' used' : List ℕ) : Type 0 where
  pub refusal : answer ≡ order_refusal k numbers times lengths mores offsets (length flagged) (length used)
  pub filled_flags : flagged' ≡ if_none answer (over (flags (pieces_of numbers times lengths mores offsets)) flagged) flagged
  pub filled_usable : used' ≡ if_none answer (over (usable (pieces_of numbers times lengths mores offsets)) used) used
