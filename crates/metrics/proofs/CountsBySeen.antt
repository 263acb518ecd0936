-- The counts depend on two things: which packets have arrived, and NextExp. A packet that has arrived is below NextExp (`has-below`, by
-- induction over the first arrivals), so NextExp goes by every arrival alike (`next-arrival`); and after an arrival a packet has arrived
-- if it had before, or if it is the one marked (`seen_more`). So an arrival's kind is that of its answer. Counts go by the kind alone, so
-- an answer of this kind with any figures counts as the record's own (`kind-told`), and counts that take a step by the class are right
-- with the kind (`counts-seen`).
-- Here l are the arrivals or the answers so far, a the next one, fs first arrivals, s the number of any packet, n that of record i + 1, f
-- that the table has the packets before it, and g any figures. Assumes nothing.
use mathlib.Core.Path.{◌≡◌, refl, sym, ap, ◌∙◌}
use mathlib.Core.Bool.{Bool, true, false, cond, ◌||◌, or-true, or-false, true≢false}
use mathlib.Core.List.{List, [], ◌∷◌, ◌++◌}
use Prim.Native.Nat.{ℕ, ◌+◌, ◌≤◌, ◌<◌}
use native.Mathlib.Omega.{arith}
use lib.Dec.{eqb, leb}
use lib.ListN.{length, get_or, set, replicate, length-set, length-replicate, get_or-replicate}
use lib.Seq.{get_or-set_same, get_or-set_other}
use borrow.Author.Tests.{eqb-true, eqb-false, lt-leb}
use Rattle.rfc4737.specs.declared.Arrival.{Arrival}
use Rattle.rfc4737.specs.declared.Answer.{Answer}
use Rattle.rfc4737.specs.declared.Counts.{Counts}
use Rattle.rfc4737.specs.declared.LateTime.{LateTime}
use Rattle.rfc4737.specs.declared.ReorderedFigures.{ReorderedFigures}
use Rattle.rfc4737.specs.Arrivals.{has, firsts, first_record}
use Rattle.rfc4737.specs.Order.{next_exp, next_after, is_in_order}
use Rattle.rfc4737.specs.Extent.{discontinuity}
use Rattle.rfc4737.specs.Answer.{in_order_answer, reordered_answer, first_answer, answer_to}
use Rattle.rfc4737.specs.Runs.{runs_after, counts}
use Rattle.rfc4737.proofs.Lists.{snoc-ind}
use Rattle.rfc4737.proofs.Arrivals.{has_more, firsts_more, has-firsts, with-duplicate, with_first}
use Rattle.rfc4737.proofs.Folds.{next_more}
use Rattle.rfc4737.proofs.Jumps.{next_after-above}
use Rattle.rfc4737.specs.Judge.{sent_most}
use Rattle.sample.specs.declared.Layout.{Layout}
use Rattle.sample.specs.Decode.{Decoded}
use Rattle.metrics.specs.Sample.{size_of}
use Rattle.metrics.specs.Records.{arrival_at, before, answer_at, answers_to, HasRecord, number_places}
use Rattle.metrics.specs.Private.Tables.{answer_by, ClassOf}
use Rattle.metrics.specs.Private.Steps.{kind_by}
use Rattle.metrics.specs.declared.engine.kind.Class.{Class}
use Rattle.metrics.proofs.TablesFollow.{before_more}
use Rattle.metrics.proofs.OneArrivalMore.{answers_next, counts-more}

-- after some arrivals a table has for each packet whether it has arrived, and NextExp is known
pub record SeenPackets (earlier : List Arrival) (seen : List Bool) (next : ℕ) : Type 0 where
  pub places : length seen ≡ number_places
  pub at : (s : ℕ) → s ≤ sent_most → get_or seen s false ≡ has s earlier
  pub expected : next ≡ next_exp (firsts earlier)

-- before any arrival
pub seen_start : (d : Decoded) → SeenPackets (before d 0) (replicate number_places false) 1
unfolding has firsts next_exp
seen_start d =
    record {
      places = length-replicate number_places false;
      at = λ s h. get_or-replicate number_places s false false (omega arith);
      expected = refl;
    }

-- ---- the next arrival

-- a packet among some first arrivals is below their NextExp
pub has-below : (s : ℕ) (fs : List Arrival) → has s fs ≡ true → s < next_exp fs
unfolding has
has-below s fs = snoc-ind (λ (fs : List Arrival). has s fs ≡ true → s < next_exp fs) more (λ e. absurd (true≢false (sym e))) fs
  where
    more : (fs : List Arrival) (a : Arrival) → (has s fs ≡ true → s < next_exp fs) → has s (fs ++ (a ∷ [])) ≡ true
        → s < next_exp (fs ++ (a ∷ []))
    more fs a h e = rw (next_more fs a) (go (has s fs) refl (eqb a.number s) refl (sym (has_more s fs a) ∙ e))
      where
        b : (next_exp fs ≤ next_after (next_exp fs) a.number) × (a.number < next_after (next_exp fs) a.number)
        b = next_after-above (next_exp fs) a.number

        go : (t : Bool) → has s fs ≡ t → (u : Bool) → eqb a.number s ≡ u → (t || u) ≡ true → s < next_after (next_exp fs) a.number
        go true q u r w = omega (arith, h q, b)
        go false q true r w = omega (arith, eqb-true a.number s r, b)
        go false q false r w = absurd (true≢false (sym w))

-- so the table has no packet from NextExp on
pub unseen : (l : List Arrival) (seen : List Bool) (next : ℕ) → SeenPackets l seen next → (n : ℕ) → n ≤ sent_most → next ≤ n
    → get_or seen n false ≡ false
unseen l seen next f n high h = f.at n high ∙ go (has n l) refl
  where
    go : (t : Bool) → has n l ≡ t → t ≡ false
    go true e = absurd (omega (arith, h, f.expected, has-below n (firsts l) (has-firsts n l ∙ e)))
    go false e = refl

-- and NextExp goes by every arrival alike: a copy leaves it
pub next-arrival : (l : List Arrival) (a : Arrival) → next_exp (firsts (l ++ (a ∷ []))) ≡ next_after (next_exp (firsts l)) a.number
unfolding next_after
next-arrival l a = go (has a.number (firsts l)) refl
  where
    go : (t : Bool) → has a.number (firsts l) ≡ t → next_exp (firsts (l ++ (a ∷ []))) ≡ next_after (next_exp (firsts l)) a.number
    go true e =
        ap next_exp (firsts_more l a ∙ with-duplicate (firsts l) a e)
        ∙ rw (lt-leb (next_exp (firsts l)) a.number (has-below a.number (firsts l) e))
    go false e = ap next_exp (firsts_more l a ∙ with_first (firsts l) a e) ∙ next_more (firsts l) a

-- a packet has arrived if it had, or if it is the one marked
marked-one : (seen : List Bool) (n s : ℕ) → n < length seen → get_or (set seen n true) s false ≡ (get_or seen s false || eqb n s)
marked-one seen n s room = go (eqb n s) refl
  where
    go : (t : Bool) → eqb n s ≡ t → get_or (set seen n true) s false ≡ (get_or seen s false || t)
    go true e = rw (← eqb-true n s e) (get_or-set_same seen n true false room ∙ sym (or-true (get_or seen n false)))
    go false e = get_or-set_other seen n s true false (λ q. eqb-false n s e (sym q)) ∙ sym (or-false (get_or seen s false))

-- the table after the next arrival
seen_more : (l : List Arrival) (a : Arrival) (seen : List Bool) (next : ℕ) → a.number ≤ sent_most → SeenPackets l seen next
    → SeenPackets (l ++ (a ∷ [])) (set seen a.number true) (next_after next a.number)
seen_more l a seen next high f =
    record {
      places = length-set seen a.number true ∙ f.places;
      at = λ s h. marked-one seen a.number s (omega (arith, f.places)) ∙ rw (f.at s h) (sym (has_more s l a));
      expected = rw f.expected (sym (next-arrival l a));
    }

module _ (d : Decoded) (layout : Layout) (i : ℕ) (there : HasRecord d layout i) (seen : List Bool) (next : ℕ)
    (f : SeenPackets (before d i) seen next)
    (n : ℕ) (is : n ≡ (arrival_at d i).number) (high : n ≤ sent_most) where
  -- the table after record i + 1
  pub seen_next : SeenPackets (before d (i + 1)) (set seen n true) (next_after next n)
  seen_next = rw (before_more d layout i there, is) (seen_more (before d i) (arrival_at d i) seen next (rw is at high) f)

  -- the class by the table counts as the answer
  kind-told : (l : List Answer) (g : ReorderedFigures) → counts (l ++ (answer_by 0 (kind_by seen next n) g ∷ []))
      ≡ counts (l ++ (answer_at d i ∷ []))
  unfolding answer_to first_answer in_order_answer reordered_answer is_in_order kind_by runs_after
  kind-told l g =
      rw (f.at n high, f.expected, is) (go (has (arrival_at d i).number (before d i))
      (leb (next_exp (firsts (before d i))) (arrival_at d i).number))
    where
      go : (t u : Bool)
          → counts (l ++ (answer_by 0 (cond t (Class.Duplicate 0) (cond u (Class.InOrder 0) (Class.Reordered 0))) g ∷ []))
          ≡ counts (l ++ (cond t (Answer.Duplicate (record { first = first_record (arrival_at d i).number (before d i) }))
          (cond u (in_order_answer (firsts (before d i)) (arrival_at d i))
          (reordered_answer (size_of d) (firsts (before d i)) (arrival_at d i)
          (discontinuity (firsts (before d i)) (arrival_at d i).number))) ∷ []))
      go true u = counts-more l _ ∙ sym (counts-more l _)
      go false true = counts-more l _ ∙ sym (counts-more l _)
      go false false = counts-more l _ ∙ sym (counts-more l _)

  -- the counts after record i + 1
  pub counts-seen : {k : Class} {r : Counts} → k ≡ kind_by seen next n
      → ((m : ℕ) (a : Answer) → ClassOf m k a → r ≡ counts (answers_to d i ++ (a ∷ [])))
      → r ≡ counts (answers_to d (i + 1))
  counts-seen e h =
      let g : ReorderedFigures = record { position = 0; extent = 0; late = LateTime.After 0; offset = 0; largest = 0 } in
      h 0 _ (record { figures = g; is = rw e }) ∙ kind-told (answers_to d i) g ∙ sym (ap counts (answers_next d layout i there))
