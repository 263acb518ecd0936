-- Decoded lines in turn. The first line decides, or the lines after it do (`judge-first`). In a loop the judgement of all lines is that of
-- the lines left (inv), of which the first is malformed (`judge-bad`), or is the 4,097th (`judge-many`), or its arrival is refused
-- (`judge-stop`), or those after it decide (`judge-next`); at the end none is left (`judge-done`, `none_left`). Here r is a refusal, y a
-- judgement, d what a line decodes to and ds what those after it do, a its arrival; `count` lines come before it, and J is the judgement
-- of all lines. Assumes nothing.
use Prim.Native.Nat.{ℕ, zero, suc, ◌+◌, ◌≤◌, ◌<◌}
use native.Mathlib.Omega.{arith}
use mathlib.Core.Path.{◌≡◌, refl, sym, ap, ◌∙◌}
use mathlib.Core.List.{List, [], ◌∷◌}
use borrow.Author.Tests.{le-leb, lt-leb}
use lib.ListN.{length, drop, drop_of_length-le}
use Rattle.octets.specs.Text.{lines}
use Rattle.rfc4737.specs.declared.Arrival.{Arrival}
use Rattle.rfc4737.specs.Judge.{arrivals_most, judge_one}
use Rattle.rfc4737.specs.Refusals.{many_arrivals, line_malformed}
use Rattle.rfc4737.specs.Times.{next_reference}
use Rattle.rfc4737.proofs.Due.{first_one}
use Rattle.textlog.specs.Decode.{DecodedLine, malformed, arrived, decoded_lines, arrival_or0, judge_line, unless, judge_lines}
use Rattle.textlog.specs.declared.LogJudgement.{LogJudgement}

-- ---- a judgement, unless a refusal comes before it

-- none does
unless-none : (r line : ℕ) (y : LogJudgement) → r ≡ 0 → unless r line y ≡ y
unless-none zero line y e = refl
unless-none (suc r) line y e = absurd (omega arith)

-- one does
unless-due : (r line : ℕ) (y : LogJudgement) → (r ≡ 0 → ⊥) → unless r line y ≡ record { refusal = r; arrivals = 0; line = line }
unless-due zero line y e = absurd (e refl)
unless-due (suc r) line y e = refl

-- nothing is refused: no refusal comes before the judgement, and the judgement has none
pub unless-split : (r line : ℕ) (y : LogJudgement) → (unless r line y).refusal ≡ 0 → (r ≡ 0) × (unless r line y ≡ y) × (y.refusal ≡ 0)
unless-split zero line y e = (refl, refl, e)
unless-split (suc r) line y e = absurd (omega arith)

-- ---- the first line decides, or what is left does

module _ (k count reference : ℕ) (ds : List DecodedLine) where
  -- by what it decodes to
  pub judge-first : (d : DecodedLine)
      → judge_lines k count reference (d ∷ ds)
      ≡ unless (judge_line k count reference d) (count + 1) (judge_lines k (count + 1) (next_reference reference (arrival_or0 d).time) ds)
  unfolding judge_lines
  judge-first d = refl

  module _ (a : Arrival) where
    -- it is line 4,097
    pub judge-over : arrivals_most ≤ count
        → judge_lines k count reference (arrived a ∷ ds) ≡ record { refusal = many_arrivals; arrivals = 0; line = count + 1 }
    judge-over h = judge-first (arrived a) ∙ rw (le-leb arrivals_most count h)

    -- an arrival among the first 4,096: its own refusal is that of its line
    few-one : count < arrivals_most → judge_line k count reference (arrived a) ≡ judge_one k reference a
    few-one few = rw (lt-leb arrivals_most count few) (first_one (judge_one k reference a))

    -- it is refused
    pub judge-refused : count < arrivals_most → (judge_one k reference a ≡ 0 → ⊥)
        → judge_lines k count reference (arrived a ∷ ds) ≡ record { refusal = judge_one k reference a; arrivals = 0; line = count + 1 }
    judge-refused few z =
        judge-first (arrived a)
        ∙ ap (λ (x : ℕ). unless x (count + 1) (judge_lines k (count + 1) (next_reference reference a.time) ds)) (few-one few)
        ∙ unless-due (judge_one k reference a) (count + 1) (judge_lines k (count + 1) (next_reference reference a.time) ds) z

    -- nothing of it is refused
    pub judge-passed : count < arrivals_most → judge_one k reference a ≡ 0
        → judge_lines k count reference (arrived a ∷ ds) ≡ judge_lines k (count + 1) (next_reference reference a.time) ds
    judge-passed few j = judge-first (arrived a) ∙ unless-none _ (count + 1) _ (few-one few ∙ j)

-- ---- the loop: the answer of the whole is that of what is left

module _ (k : ℕ) (J : LogJudgement) (count reference : ℕ) (left : List DecodedLine) (inv : J ≡ judge_lines k count reference left) where
  -- the next line is malformed
  pub judge-bad : {ds : List DecodedLine} → left ≡ malformed ∷ ds → record { refusal = line_malformed; arrivals = 0; line = count + 1 } ≡ J
  judge-bad {ds} e = sym (inv ∙ ap (judge_lines k count reference) e ∙ judge-first k count reference ds malformed)

  -- no line is left
  pub judge-done : left ≡ [] → record { refusal = 0; arrivals = count; line = 0 } ≡ J
  unfolding judge_lines
  judge-done e = sym (inv ∙ ap (judge_lines k count reference) e)

  module _ (a : Arrival) (ds : List DecodedLine) (e : left ≡ arrived a ∷ ds) where
    next : J ≡ judge_lines k count reference (arrived a ∷ ds)
    next = inv ∙ ap (judge_lines k count reference) e

    -- it is line 4,097
    pub judge-many : arrivals_most ≤ count → record { refusal = many_arrivals; arrivals = 0; line = count + 1 } ≡ J
    judge-many h = sym (next ∙ judge-over k count reference ds a h)

    module _ (few : count < arrivals_most) (r : ℕ) (j : r ≡ judge_one k reference a) where
      -- it is refused
      pub judge-stop : (r ≡ 0 → ⊥) → record { refusal = r; arrivals = 0; line = count + 1 } ≡ J
      judge-stop z =
          ap (λ (x : ℕ). record { refusal = x; arrivals = 0; line = count + 1 }) j
          ∙ sym (next ∙ judge-refused k count reference ds a few (λ q. z (j ∙ q)))

      -- it is not
      pub judge-next : r ≡ 0 → {reference' : ℕ} → reference' ≡ next_reference reference a.time
          → J ≡ judge_lines k (count + 1) reference' ds
      judge-next z f =
          next ∙ judge-passed k count reference ds a few (sym j ∙ z) ∙ ap (λ (x : ℕ). judge_lines k (count + 1) x ds) (sym f)

-- where the log ends no line is left
pub none_left : (log : List ℕ) (at : ℕ) → length log ≤ at → decoded_lines (drop at log) ≡ []
unfolding lines
none_left log at h = ap decoded_lines (drop_of_length-le log h)
