-- The shares of some arrivals, with their two tables. Before any arrival all are 0, but NextExp is 1. Each share is a count over the
-- answers, and takes one step with the answer of the next arrival (`shares-more`). The link of a packet is 0 exactly if it has not
-- arrived, so it shows a copy, which changes nothing (`shared-copy`). A new packet adds its number, and 1 more than its largest n as its
-- link: the largest n is 0 if it is in order (`shared-in-order`), and is found along the links if it is reordered (`shared-late`). No
-- share is greater than the number of arrivals (`shares-few`).
-- Here low and high are the two n of the shares, l the arrivals, a the next one, t the shares, n its largest n, and a prime marks the
-- values after it. Assumes nothing.
use mathlib.Core.Path.{◌≡◌, refl, sym, ap, ◌∙◌}
use mathlib.Core.Bool.{Bool, true, false, cond, not, ◌||◌, or-true, or-false}
use mathlib.Core.List.{List, [], ◌∷◌, ◌++◌}
use Prim.Native.Nat.{ℕ, ◌+◌, ◌≤◌, ◌<◌}
use native.Mathlib.Omega.{arith}
use lib.Dec.{eqb}
use lib.ListN.{length, get_or, set, replicate, length-set, length-append}
use lib.Seq.{get_or-set_same, get_or-set_other}
use borrow.Author.Tests.{eq-eqb, ne_eqb, eqb-true, eqb-false, le-leb, lt-leb, not-true, not-false}
use Rattle.rfc4737.specs.declared.Arrival.{Arrival}
use Rattle.rfc4737.specs.declared.Answer.{Answer}
use Rattle.rfc4737.specs.Arrivals.{has, firsts, each, each_after, count}
use Rattle.rfc4737.specs.Order.{next_exp, next_after}
use Rattle.rfc4737.specs.Extent.{largest_n}
use Rattle.rfc4737.specs.Answer.{in_order_answer, reordered_answer, answer_to, answers}
use Rattle.rfc4737.specs.Runs.{is_duplicate, is_reordered, arrived}
use Rattle.rfc4737.specs.Ratios.{is_n_reordered, n_reordered}
use Rattle.rfc4737.proofs.Lists.{snoc-ind, zeros}
use Rattle.rfc4737.proofs.Arrivals.{has-firsts, has_more, count-more, firsts-duplicate, firsts-first}
use Rattle.rfc4737.proofs.Folds.{answers-more, length-answers, arrived-more, answer-duplicate, answer-first, first-in-order, first-reordered}
use Rattle.rfc4737.specs.Judge.{sent_most, arrivals_most}
use Rattle.sample.specs.Decode.{Decoded}
use Rattle.metrics.specs.Sample.{size_of}
use Rattle.metrics.specs.Records.{before, number_places}
use Rattle.metrics.specs.Private.Tables.{NumberTable}
use Rattle.metrics.specs.Private.Steps.{reached_by, shares_of, ShareTables}
use Rattle.metrics.specs.declared.figures.Shares.{Shares}
use Rattle.metrics.proofs.TablesFollow.{numbered_more}
use Rattle.metrics.proofs.CountsBySeen.{has-below, next-arrival}
use Rattle.metrics.proofs.Links.{largest-next, linked-start, linked-set}

-- before any arrival
pub shares-start : (low high : ℕ) (d : Decoded) → ShareTables low high (size_of d) (before d 0) (replicate sent_most 0)
    (replicate number_places 0)
    (record { whole = 0; reordered = 0; low = 0; high = 0; next = 1 })
unfolding shares_of answers each each_after arrived n_reordered count firsts next_exp has
shares-start low high d =
    record {
      shares = refl;
      places = (refl, refl);
      numbered = record { all = refl; at = λ p h. absurd (omega arith) };
      linked = linked-start 0 d;
      arrived = λ s h. rw (zeros number_places s);
    }

-- no more answers pass a test than there are
count_most : (p : Answer → Bool) (l : List Answer) → count p l ≤ length l
unfolding count
count_most p l = snoc-ind (λ (l : List Answer). count p l ≤ length l) more (omega arith) l
  where
    go : (b : Bool) (n m : ℕ) → n ≤ m → cond b (n + 1) n ≤ m + 1
    go true n m h = omega arith
    go false n m h = omega arith

    more : (l : List Answer) (a : Answer) → count p l ≤ length l → count p (l ++ (a ∷ [])) ≤ length (l ++ (a ∷ []))
    more l a h = rw (count-more p l a, length-append l (a ∷ [])) (go (p a) (count p l) (length l) h)

-- the shares of fewer than 4,096 arrivals
pub shares-few : (low high : ℕ) (size : ℕ → ℕ) (l : List Arrival) (t : Shares) → t ≡ shares_of low high size l → length l < arrivals_most
    → (t.whole < sent_most) × (t.reordered < arrivals_most) × (t.low < arrivals_most) × (t.high < arrivals_most)
unfolding shares_of n_reordered arrived
shares-few low high size l t is h =
    let most : (p : Answer → Bool) → count p (answers size l) < arrivals_most =
    λ p. omega (arith, count_most p (answers size l), length-answers size l) in
    rw is (most _, most is_reordered, most (is_n_reordered low), most (is_n_reordered high))

-- ---- the next arrival

module _ (low high : ℕ) (size : ℕ → ℕ) (l : List Arrival) (a : Arrival) where
  -- the shares, by its answer
  shares-more : (b : Answer) → answer_to size l a ≡ b → shares_of low high size (l ++ (a ∷ []))
      ≡ record {
        whole = cond (not (is_duplicate b)) (arrived (answers size l) + 1) (arrived (answers size l));
        reordered = cond (is_reordered b) (count is_reordered (answers size l) + 1) (count is_reordered (answers size l));
        low = cond (is_n_reordered low b) (n_reordered low (answers size l) + 1) (n_reordered low (answers size l));
        high = cond (is_n_reordered high b) (n_reordered high (answers size l) + 1) (n_reordered high (answers size l));
        next = next_after (next_exp (firsts l)) a.number;
      }
  unfolding shares_of n_reordered
  shares-more b e =
      rw (
        answers-more size l a,
        e,
        arrived-more (answers size l) b,
        count-more is_reordered (answers size l) b,
        count-more (is_n_reordered low) (answers size l) b,
        count-more (is_n_reordered high) (answers size l) b,
        next-arrival l a,
      )

  -- of a copy
  shares_copy : has a.number l ≡ true → shares_of low high size (l ++ (a ∷ [])) ≡ shares_of low high size l
  unfolding shares_of is_n_reordered next_after
  shares_copy e =
      shares-more _ (answer-duplicate size l a e)
      ∙ rw (lt-leb (next_exp (firsts l)) a.number (has-below a.number (firsts l) (has-firsts a.number l ∙ e)))

  module _ (new : has a.number l ≡ false) (t : Shares) (is : t ≡ shares_of low high size l) where
    -- of a packet in order
    shares-in-order : next_exp (firsts l) ≤ a.number
        → record { whole = t.whole + 1; reordered = t.reordered; low = t.low; high = t.high; next = a.number + 1 }
        ≡ shares_of low high size (l ++ (a ∷ []))
    unfolding shares_of is_n_reordered next_after in_order_answer
    shares-in-order ahead =
        rw is (sym (shares-more _ (answer-first size l a new ∙ first-in-order size (firsts l) a ahead)
        ∙ rw (le-leb (next_exp (firsts l)) a.number ahead)))

    -- of a reordered one
    shares-late : a.number < next_exp (firsts l) → (n : ℕ) → n ≡ largest_n (firsts l) a.number
        → record {
          whole = t.whole + 1;
          reordered = t.reordered + 1;
          low = reached_by low n t.low;
          high = reached_by high n t.high;
          next = t.next;
        }
        ≡ shares_of low high size (l ++ (a ∷ []))
    unfolding shares_of is_n_reordered next_after reordered_answer
    shares-late late n e =
        rw (is, e) (sym (shares-more _ (answer-first size l a new ∙ first-reordered size (firsts l) a late)
        ∙ rw (lt-leb (next_exp (firsts l)) a.number late)))

module _ (low high : ℕ) (size : ℕ → ℕ) (l : List Arrival) (a : Arrival) (most : a.number ≤ sent_most) (numbers links : List ℕ) (t : Shares)
    (h : ShareTables low high size l numbers links t) where
  -- a packet with a link has arrived
  old : (get_or links a.number 0 ≡ 0 → ⊥) → has a.number l ≡ true
  old e = not-false (has a.number l) (sym (h.arrived a.number most) ∙ ne_eqb (get_or links a.number 0) 0 e)

  -- one without has not
  new : get_or links a.number 0 ≡ 0 → has a.number l ≡ false
  new e = not-true (has a.number l) (sym (h.arrived a.number most) ∙ eq-eqb (get_or links a.number 0) 0 e)

  -- of a copy all stays
  after-copy : (get_or links a.number 0 ≡ 0 → ⊥) → ShareTables low high size (l ++ (a ∷ [])) numbers links t
  after-copy e =
      record {
        shares = h.shares ∙ sym (shares_copy low high size l a (old e));
        places = h.places;
        numbered = rw (firsts-duplicate l a (old e)) h.numbered;
        linked = rw (firsts-duplicate l a (old e)) h.linked;
        arrived = λ s g. h.arrived s g ∙ ap not (sym (has_more s l a ∙ kept s (eqb a.number s) refl));
      }
    where
      kept : (s : ℕ) (u : Bool) → eqb a.number s ≡ u → (has s l || u) ≡ has s l
      kept s true q = or-true (has s l) ∙ sym (rw (eqb-true a.number s q) at (old e))
      kept s false q = or-false (has s l)

  -- a new packet adds its number, and its link by its largest n
  after-new : get_or links a.number 0 ≡ 0 → t.whole < sent_most → (n : ℕ) → n ≡ largest_n (firsts l) a.number → (t' : Shares)
      → t' ≡ shares_of low high size (l ++ (a ∷ []))
      → t'.whole ≡ t.whole + 1 → ShareTables low high size (l ++ (a ∷ [])) (set numbers t.whole a.number)
      (set links a.number (n + 1)) t'
  after-new e few n is t' shares one =
      record {
        shares = shares;
        places = (length-set numbers t.whole a.number ∙ h.places.0, length-set links a.number (n + 1) ∙ h.places.1);
        numbered =
            rw (firsts-first l a (new e), one) (numbered_more (firsts l) a numbers t.whole (omega (arith, h.places, h.numbered.all))
            h.numbered);
        linked =
            rw (firsts-first l a (new e)) (linked-set 0 (firsts l) a (has-firsts a.number l ∙ new e) links h.linked (n + 1)
            (omega (arith, h.places)) (omega arith));
        arrived = λ s g. marked s g (eqb a.number s) refl ∙ ap not (sym (has_more s l a));
      }
    where
      marked : (s : ℕ) → s ≤ sent_most → (u : Bool) → eqb a.number s ≡ u
          → eqb (get_or (set links a.number (n + 1)) s 0) 0 ≡ not (has s l || eqb a.number s)
      marked s g true q =
          rw (q, or-true (has s l), ← eqb-true a.number s q, get_or-set_same links a.number (n + 1) 0 (omega (arith, h.places)))
          (ne_eqb (n + 1) 0 (λ z. omega arith))
      marked s g false q =
          rw (q, or-false (has s l), get_or-set_other links a.number s (n + 1) 0 (λ z. eqb-false a.number s q (sym z))) (h.arrived s g)

module _ (low high number : ℕ) (most : number ≤ sent_most) (numbers links : List ℕ) (t : Shares) where
  -- the shares and tables after an arrival of this number
  abbrev After : List ℕ → List ℕ → Shares → Type 0
  After numbers' links' t' = (size : ℕ → ℕ) (l : List Arrival) (a : Arrival) → a.number ≡ number
      → ShareTables low high size l numbers links t → ShareTables low high size (l ++ (a ∷ [])) numbers' links' t'

  -- of a copy
  pub shared-copy : (get_or links number 0 ≡ 0 → ⊥) → After numbers links t
  shared-copy e size l a is h = after-copy low high size l a (rw is most) numbers links t h (rw is e)

  module _ (e : get_or links number 0 ≡ 0) (few : t.whole < sent_most) where
    -- of a packet in order
    pub shared-in-order : t.next ≤ number
        → After (set numbers t.whole number) (set links number 1)
        (record { whole = t.whole + 1; reordered = t.reordered; low = t.low; high = t.high; next = number + 1 })
    unfolding shares_of
    shared-in-order ahead size l a is h =
        let first : next_exp (firsts l) ≤ a.number = omega (arith, ap (λ (t : Shares). t.next) h.shares) in
        rw (← is)
        (after-new low high size l a (rw is most) numbers links t h (rw is e) few 0 (sym (largest-next a.number (firsts l) first)) _
        (shares-in-order low high size l a (new low high size l a (rw is most) numbers links t h (rw is e)) t h.shares first) refl)

    -- of a reordered one
    pub shared-late : number < t.next → (n : ℕ) → ((fs : List Arrival) → NumberTable fs numbers t.whole → n ≡ largest_n fs number)
        → (low' high' : ℕ) → low' ≡ reached_by low n t.low → high' ≡ reached_by high n t.high
        → After (set numbers t.whole number) (set links number (n + 1))
        (record { whole = t.whole + 1; reordered = t.reordered + 1; low = low'; high = high'; next = t.next })
    unfolding shares_of
    shared-late late n own low' high' low_is high_is size l a is h =
        let last : a.number < next_exp (firsts l) = omega (arith, ap (λ (t : Shares). t.next) h.shares) in
        let largest : n ≡ largest_n (firsts l) a.number = own (firsts l) h.numbered ∙ ap (largest_n (firsts l)) (sym is) in
        rw (← is, low_is, high_is)
        (after-new low high size l a (rw is most) numbers links t h (rw is e) few n largest _
        (shares-late low high size l a (new low high size l a (rw is most) numbers links t h (rw is e)) t h.shares last n largest) refl)
