-- The next arrival in a pass over a file. Before any arrival all tables are zeros. The answers up to record i + 1 are those up to record
-- i, followed by `answer_at` (`answers_next`), and up to the last they are the sample's (`answers-end`). Each figure goes over the answers
-- one by one, so it takes one step: the counts (`counts-more`), the tally (`tally-next`) and the table of discoverers. A discoverer is
-- the first answer with a discontinuity, so a later answer counts only if no earlier one has it (`discoverer-more`, by induction over the
-- answers). So an answer that is not reordered leaves the table (`marked-same`), and a reordered one changes it at its own discontinuity,
-- and only if 0 is there (`marked-late`); that discontinuity is at one of the positions (`inside-told`).
-- Here d is the decoded file, i the number of records before, n that of the first arrivals among them, k the class, l some answers, a the
-- next one, discoverers the table, m that it has the discoverers of l, at the position of a discontinuity and p any position. Assumes
-- nothing.
use mathlib.Core.Path.{◌≡◌, refl, sym, ap, ◌∙◌}
use mathlib.Core.Bool.{Bool, true, false, cond, not, true≢false}
use mathlib.Core.List.{List, [], ◌∷◌, ◌++◌}
use mathlib.Core.Option.{Option, none, some, some-ne-none}
use Prim.Native.Nat.{ℕ, zero, suc, ◌+◌, ◌-◌, ◌≤◌}
use native.Mathlib.Omega.{arith}
use lib.Dec.{eqb}
use lib.ListN.{length, get_or, set, replicate, length-set, take}
use lib.Seq.{take_all, get_or-set_same, get_or-set_other}
use borrow.Author.Tests.{eqb-true, eqb-false}
use Rattle.rfc4737.specs.declared.Answer.{Answer}
use Rattle.rfc4737.specs.Arrivals.{firsts, first_record, record_from, each, each_after, count}
use Rattle.rfc4737.specs.Order.{next_exp}
use Rattle.rfc4737.specs.Extent.{byte_offset}
use Rattle.rfc4737.specs.Answer.{answers}
use Rattle.rfc4737.specs.Runs.{is_duplicate, is_in_order_answer, is_reordered, arrived, runs, runs_after, counts}
use Rattle.rfc4737.specs.Tally.{tally, tally_after, tally_places}
use Rattle.rfc4737.specs.Gaps.{belongs_to, position_of, discoverer}
use Rattle.rfc4737.proofs.Lists.{zeros}
use Rattle.rfc4737.proofs.Arrivals.{count-more}
use Rattle.rfc4737.proofs.Folds.{answers-more, length-answers, arrived-more, runs-more, tally-more}
use Rattle.rfc4737.specs.Judge.{sent_most}
use Rattle.sample.specs.declared.Layout.{Layout}
use Rattle.sample.specs.Decode.{Decoded}
use Rattle.metrics.specs.Sample.{size_of, sample_arrivals, answers_of}
use Rattle.metrics.specs.Records.{arrival_at, before, answer_at, answers_to, FileLayout, HasRecord, number_places}
use Rattle.metrics.specs.Private.Tables.{EngineTables, SeenAt, ClassOf, IfLate}
use Rattle.metrics.specs.Private.Steps.{DiscoverersAt, known}
use Rattle.metrics.specs.declared.engine.kind.Class.{Class}
use Rattle.metrics.specs.declared.engine.seen.State.{State}
use Rattle.metrics.proofs.TablesFollow.{arrivals-laid, before_more, before-length}
use Rattle.metrics.proofs.AnswersByClass.{late-place, late-alone}

-- ---- before any arrival

-- the tables at the start
pub follows-start : (d : Decoded) → EngineTables (before d 0) (replicate sent_most 0) (replicate number_places 0) (replicate number_places 0)
    (record { count = 0; next = 1 })
unfolding firsts next_exp first_record record_from
follows-start d =
    record {
      places = (refl, refl, refl);
      numbered = record { all = refl; at = λ p h. absurd (omega arith) };
      next = refl;
      recorded = record { at = λ s low high. zeros number_places s };
      skips = λ s low h new. absurd (omega arith);
    }

-- those by packet number
pub seen-start : (d : Decoded)
    → SeenAt (before d 0) (record { records = replicate number_places 0; skipped = replicate number_places 0 }) (record { count = 0; next = 1 })
seen-start d = record { numbers = _; follows = follows-start d }

-- no answers yet
pub answers-start : (d : Decoded) → answers_to d 0 ≡ []
unfolding answers each each_after
answers-start d = refl

-- after all arrivals
pub answers-end : (d : Decoded) (layout : Layout) (i : ℕ) → FileLayout d layout → layout.arrivals ≤ i → answers_to d i ≡ answers_of d
answers-end d layout i h g = ap (answers (size_of d)) (take_all i (sample_arrivals d) (omega (arith, arrivals-laid d layout h)))

-- ---- the next arrival

module _ (d : Decoded) (layout : Layout) (i : ℕ) (h : HasRecord d layout i) where
  -- the answers after record i + 1
  pub answers_next : answers_to d (i + 1) ≡ answers_to d i ++ (answer_at d i ∷ [])
  answers_next = rw (before_more d layout i h) (answers-more (size_of d) (before d i) (arrival_at d i))

  -- there are i before it
  pub answers-length : length (answers_to d i) ≡ i
  answers-length = length-answers (size_of d) (before d i) ∙ before-length d layout i h

  -- a discontinuity that the class names is at one of the positions
  pub inside-told : (numbers records skipped : List ℕ) (state : State) → EngineTables (before d i) numbers records skipped state
      → (k : Class) → ClassOf state.count k (answer_at d i) → IfLate (λ (at : ℕ). (1 ≤ at) × (at ≤ state.count)) k
  inside-told numbers records skipped state f (Class.Duplicate first) t = tt
  inside-told numbers records skipped state f (Class.InOrder jump) t = tt
  inside-told numbers records skipped state f (Class.Reordered at) t =
      let p = late-place d layout i at state.count h t numbers records f.numbered f.recorded in (p.0, p.1)

  -- before the position of that discontinuity no packet is greater
  pub alone-told : (numbers records skipped : List ℕ) (state : State) → EngineTables (before d i) numbers records skipped state
      → (k : Class) → ClassOf state.count k (answer_at d i)
      → IfLate (λ (at : ℕ). byte_offset (size_of d) (take (at - 1) (firsts (before d i))) (arrival_at d i).number ≡ 0) k
  alone-told numbers records skipped state f (Class.Duplicate first) t = tt
  alone-told numbers records skipped state f (Class.InOrder jump) t = tt
  alone-told numbers records skipped state f (Class.Reordered at) t =
      late-alone d layout i at state.count h t numbers records f.numbered f.recorded

-- ---- counts

-- the counts after the next answer
pub counts-more : (l : List Answer) (a : Answer)
    → counts (l ++ (a ∷ []))
    ≡ record {
      arrived = cond (not (is_duplicate a)) (arrived l + 1) (arrived l);
      reordered = cond (is_reordered a) (count is_reordered l + 1) (count is_reordered l);
      duplicates = cond (is_duplicate a) (count is_duplicate l + 1) (count is_duplicate l);
      inorder = cond (is_in_order_answer a) (count is_in_order_answer l + 1) (count is_in_order_answer l);
      runs = runs_after (runs l) a;
    }
unfolding counts
counts-more l a =
    rw (arrived-more l a, count-more is_reordered l a, count-more is_duplicate l a, count-more is_in_order_answer l a, runs-more l a)

-- ---- tally

-- the tally after record i + 1
pub tally-next : (d : Decoded) (layout : Layout) (i : ℕ) → HasRecord d layout i → (t : List ℕ) → t ≡ tally (answers_to d i)
    → tally_after t (answer_at d i) ≡ tally (answers_to d (i + 1))
tally-next d layout i h t e =
    ap (λ (t : List ℕ). tally_after t (answer_at d i)) e ∙ sym (ap tally (answers_next d layout i h)
    ∙ tally-more (answers_to d i) (answer_at d i))

-- an answer that is not reordered leaves it
pub tally-other : (t : List ℕ) (a : Answer) → is_reordered a ≡ false → t ≡ tally_after t a
unfolding tally_after
tally-other t (Answer.Duplicate f) e = refl
tally-other t (Answer.InOrder f) e = refl
tally-other t (Answer.Reordered f) e = absurd (true≢false e)

-- of no answers all counts of the tally are 0
pub tally-none : tally [] ≡ replicate tally_places 0
unfolding tally
tally-none = refl

-- ---- discoverers of discontinuities

-- among no answers
pub marked_start : (d : Decoded) → DiscoverersAt (answers_to d 0) (replicate number_places 0)
unfolding answers each each_after discoverer
marked_start d = record { places = refl; at = λ p low high. ap known (zeros number_places p) }

-- the first of two positions that there is
abbrev first_of : Option ℕ → Option ℕ → Option ℕ
first_of none r = r
first_of (some p) r = some p

-- a later answer is the discoverer only if no earlier one has the discontinuity
own_first : (p : ℕ) (b : Answer) (rest rest' r : Option ℕ) → rest' ≡ first_of rest r
    → cond (belongs_to p b) (position_of b) rest' ≡ first_of (cond (belongs_to p b) (position_of b) rest) r
unfolding belongs_to position_of
own_first p (Answer.Duplicate f) rest rest' r e = e
own_first p (Answer.InOrder f) rest rest' r e = e
own_first p (Answer.Reordered f) rest rest' r e = own (eqb (f.position - f.extent) p)
  where
    own : (t : Bool) → cond t (some f.position) rest' ≡ first_of (cond t (some f.position) rest) r
    own true = refl
    own false = e

-- the discoverer after the next answer
discoverer-more : (p : ℕ) (l : List Answer) (a : Answer)
    → discoverer p (l ++ (a ∷ [])) ≡ first_of (discoverer p l) (cond (belongs_to p a) (position_of a) none)
unfolding discoverer
discoverer-more p [] a = refl
discoverer-more p (b ∷ l) a = own_first p b (discoverer p l) (discoverer p (l ++ (a ∷ []))) _ (discoverer-more p l a)

-- an empty result changes no discoverer
keep : (o : Option ℕ) → first_of o none ≡ o
keep none = refl
keep (some q) = refl

-- an answer that is no reordered packet's discovers nothing
discoverer-same : (p : ℕ) (l : List Answer) (a : Answer) → is_reordered a ≡ false → discoverer p (l ++ (a ∷ [])) ≡ discoverer p l
unfolding belongs_to
discoverer-same p l a e = discoverer-more p l a ∙ go a e (discoverer p l)
  where
    go : (a : Answer) → is_reordered a ≡ false → (o : Option ℕ) → first_of o (cond (belongs_to p a) (position_of a) none) ≡ o
    go (Answer.Duplicate f) e o = keep o
    go (Answer.InOrder f) e o = keep o
    go (Answer.Reordered f) e o = absurd (true≢false e)

-- a table of discoverers stays under an answer that is no reordered packet's
pub marked-same : (l : List Answer) (a : Answer) (discoverers : List ℕ) → is_reordered a ≡ false → DiscoverersAt l discoverers
    → DiscoverersAt (l ++ (a ∷ [])) discoverers
marked-same l a discoverers e m = record { places = m.places; at = λ p low high. m.at p low high ∙ sym (discoverer-same p l a e) }

-- a number that is not 0 stands for itself
pub known_some : (p : ℕ) → (p ≡ 0 → ⊥) → known p ≡ some p
known_some zero h = absurd (h refl)
known_some (suc p) h = refl

-- under a reordered packet's answer the discontinuity at `at` has its position, if it had none
module _ (l : List Answer) (a : Answer) (discoverers : List ℕ) (at position : ℕ) (m : DiscoverersAt l discoverers) (low : 1 ≤ at)
    (high : at ≤ sent_most) (one : position ≡ 0 → ⊥)
    (mine : (p : ℕ) → cond (belongs_to p a) (position_of a) none ≡ cond (eqb at p) (some position) none) where
  -- the discoverer at each position
  now-found : (p : ℕ) → discoverer p (l ++ (a ∷ [])) ≡ first_of (discoverer p l) (cond (eqb at p) (some position) none)
  now-found p = discoverer-more p l a ∙ ap (first_of (discoverer p l)) (mine p)

  -- the table has it
  at_more : (p : ℕ) → 1 ≤ p → p ≤ sent_most → known (get_or (cond (eqb (get_or discoverers at 0) 0) (set discoverers at position) discoverers)
      p 0) ≡ discoverer p (l ++ (a ∷ []))
  at_more p lo hi = go (eqb (get_or discoverers at 0) 0) refl (eqb at p) refl (discoverer p l) (m.at p lo hi) ∙ sym (now-found p)
    where
      go : (z : Bool) → eqb (get_or discoverers at 0) 0 ≡ z → (t : Bool) → eqb at p ≡ t → (o : Option ℕ) → known (get_or discoverers p 0) ≡ o
          → known (get_or (cond z (set discoverers at position) discoverers) p 0) ≡ first_of o (cond t (some position) none)
      go z ez false et o eo = ap known (other z) ∙ eo ∙ sym (keep o)
        where
          other : (z : Bool) → get_or (cond z (set discoverers at position) discoverers) p 0 ≡ get_or discoverers p 0
          other true = get_or-set_other discoverers at p position 0 (λ q. eqb-false at p et (sym q))
          other false = refl
      go true ez true et (some r) eo =
          let here : at ≡ p = eqb-true at p et in
          let none_here : known (get_or discoverers p 0) ≡ none = ap known (rw here at (eqb-true (get_or discoverers at 0) 0 ez)) in
          absurd (some-ne-none r (sym eo ∙ none_here))
      go false ez true et (some r) eo = eo
      go true ez true et none eo =
          let here : at ≡ p = eqb-true at p et in
          rw (← here, get_or-set_same discoverers at position 0 (omega (arith, m.places))) (known_some position one)
      go false ez true et none eo =
          let here : at ≡ p = eqb-true at p et in
          let some-here = known_some (get_or discoverers p 0) (rw here at (eqb-false (get_or discoverers at 0) 0 ez)) in
          absurd (some-ne-none _ (sym some-here ∙ eo))

  -- the table keeps its places
  places-more : length (cond (eqb (get_or discoverers at 0) 0) (set discoverers at position) discoverers) ≡ number_places
  places-more = go (eqb (get_or discoverers at 0) 0)
    where
      go : (z : Bool) → length (cond z (set discoverers at position) discoverers) ≡ number_places
      go true = length-set discoverers at position ∙ m.places
      go false = m.places

  -- so it is a table of the discoverers
  marked_more : DiscoverersAt (l ++ (a ∷ [])) (cond (eqb (get_or discoverers at 0) 0) (set discoverers at position) discoverers)
  marked_more = record { places = places-more; at = at_more }

-- the table of discoverers under a reordered packet after n first arrivals
pub marked-late : (l : List Answer) (a : Answer) (discoverers : List ℕ) (n at : ℕ) → ClassOf n (Class.Reordered at) a → (1 ≤ at)
    × (at ≤ n) → n ≤ sent_most
    → DiscoverersAt l discoverers → DiscoverersAt (l ++ (a ∷ []))
    (cond (eqb (get_or discoverers at 0) 0) (set discoverers at (n + 1)) discoverers)
unfolding belongs_to position_of
marked-late l a discoverers n at k inside few m =
    let e : n + 1 - (n + 1 - at) ≡ at = omega (arith, inside) in
    marked_more l a discoverers at (n + 1) m inside.0 (omega (arith, inside)) (λ z. omega (arith, z)) (λ p. rw (k.is, e))
