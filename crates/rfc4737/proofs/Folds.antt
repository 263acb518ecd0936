-- Laws of folds over first arrivals and over answers. NextExp, the byte offset, the largest n, and the counts, runs and tally of answers
-- are left folds, and the answers are an `each`. So the law of the next element (`next_more`, `answers-more`, `runs-more` and so on) is
-- `fold_more`, `count-more` or `each_more` at its step. Over the first i + 1 elements of a list it is `answers-take`, and `fold-take` of
-- Arrivals for any fold. What the counts add up to, and the bounds of the figures, go by induction on the next element at the end
-- (`snoc-ind`): `more` rewrites by the law of the next element, and `go` takes the step by its test or by the case of the answer. In
-- `squares-le` the squares of the closed runs, with m for each packet of the open run, are at most m for each first arrival: an in-order
-- packet adds m to both sides, and a reordered one puts the square of the open run, which is no longer than m, for m times its length.
-- Here fs are the first arrivals, l the arrivals or the answers, a the next of them, s a packet's number, t the outcome of a test or a
-- tally, and k a place of the tally. Assumes nothing.
use mathlib.Core.Path.{◌≡◌, refl, sym, ap, ◌∙◌}
use mathlib.Core.Bool.{Bool, true, false, cond, not}
use mathlib.Core.List.{List, [], ◌∷◌, ◌++◌}
use Prim.Native.Nat.{ℕ, ◌+◌, ◌*◌, ◌≤◌, ◌<◌}
use native.Mathlib.Nat.{mul-add, mul-one, mul-zero, mul-le-mul_right, le_of_eq}
use native.Mathlib.Omega.{arith}
use lib.Dec.{leb, ltb, eqb}
use lib.ListN.{length, take, get_or, set, length-append, length-set}
use lib.Seq.{get_or-set_same, get_or-set_other, set_out}
use borrow.Author.Tests.{le-leb, lt-leb, leb-true, ltb-true, ltb-false, eqb-true, eqb-false}
use Rattle.rfc4737.specs.declared.Arrival.{Arrival}
use Rattle.rfc4737.specs.declared.Answer.{Answer}
use Rattle.rfc4737.specs.declared.Answer.TheVariants.{Duplicate, InOrder, Reordered}
use Rattle.rfc4737.specs.declared.Runs.{Runs}
use Rattle.rfc4737.specs.Arrivals.{has, with_arrival, firsts, first_record, each_after, each, count}
use Rattle.rfc4737.specs.Order.{next_after, next_exp, is_in_order}
use Rattle.rfc4737.specs.Extent.{byte_offset, largest_n, discontinuity}
use Rattle.rfc4737.specs.Answer.{in_order_answer, reordered_answer, first_answer, answer_to, answers}
use Rattle.rfc4737.specs.Runs.{is_duplicate, is_in_order_answer, is_reordered, arrived, lengthened, ended, runs_after, runs}
use Rattle.rfc4737.specs.Tally.{tally_place, one_more_at, tally_after, tally, tally_most, tally_places}
use Rattle.rfc4737.proofs.Lists.{snoc-ind, each_more, zeros}
use Rattle.rfc4737.proofs.Arrivals.{fold_more, each_take, count-more, length-each, firsts_more, has-firsts, with-duplicate, with_first}

-- ---- one first arrival more

pub next_more : (fs : List Arrival) (a : Arrival) → next_exp (fs ++ (a ∷ [])) ≡ next_after (next_exp fs) a.number
unfolding next_exp
next_more fs a = fold_more _ 1 fs a

pub offset-more : (size : ℕ → ℕ) (fs : List Arrival) (s : ℕ) (a : Arrival)
    → byte_offset size (fs ++ (a ∷ [])) s ≡ byte_offset size fs s + cond (ltb s a.number) (size a.number) 0
unfolding byte_offset
offset-more size fs s a = fold_more _ 0 fs a

pub largest-more : (fs : List Arrival) (s : ℕ) (a : Arrival)
    → largest_n (fs ++ (a ∷ [])) s ≡ cond (ltb s a.number) (largest_n fs s + 1) 0
unfolding largest_n
largest-more fs s a = fold_more _ 0 fs a

-- ---- bounds over the first arrivals

-- NextExp is at least 1
pub next-positive : (fs : List Arrival) → 1 ≤ next_exp fs
unfolding next_exp next_after
next-positive fs = snoc-ind (λ (fs : List Arrival). 1 ≤ next_exp fs) more (omega arith) fs
  where
    go : (n s : ℕ) → 1 ≤ n → (t : Bool) → leb n s ≡ t → 1 ≤ cond t (s + 1) n
    go n s h true e = omega arith
    go n s h false e = h

    more : (fs : List Arrival) (a : Arrival) → 1 ≤ next_exp fs → 1 ≤ next_exp (fs ++ (a ∷ []))
    more fs a h = rw next_more (go (next_exp fs) a.number h (leb (next_exp fs) a.number) refl)

-- the largest n is at most the number of first arrivals before
pub largest-le : (fs : List Arrival) (s : ℕ) → largest_n fs s ≤ length fs
unfolding largest_n
largest-le fs s = snoc-ind (λ (fs : List Arrival). largest_n fs s ≤ length fs) more (omega arith) fs
  where
    go : (n l : ℕ) → n ≤ l → (t : Bool) → cond t (n + 1) 0 ≤ l + 1
    go n l h true = omega arith
    go n l h false = omega arith

    more : (fs : List Arrival) (a : Arrival) → largest_n fs s ≤ length fs → largest_n (fs ++ (a ∷ [])) s ≤ length (fs ++ (a ∷ []))
    more fs a h = rw (largest-more fs s a, length-append fs (a ∷ [])) (go (largest_n fs s) (length fs) h (ltb s a.number))

-- the byte offset is at most the greatest size for each first arrival before
pub offset-le : (size : ℕ → ℕ) (most : ℕ) → ((s : ℕ) → size s ≤ most) → (fs : List Arrival) (s : ℕ)
    → byte_offset size fs s ≤ most * length fs
unfolding byte_offset
offset-le size most bound fs s = snoc-ind (λ (fs : List Arrival). byte_offset size fs s ≤ most * length fs) more (omega arith) fs
  where
    go : (n l k : ℕ) → n ≤ most * l → k ≤ most → (t : Bool) → n + cond t k 0 ≤ most * l + most
    go n l k h g true = omega arith
    go n l k h g false = omega arith

    more : (fs : List Arrival) (a : Arrival) → byte_offset size fs s ≤ most * length fs
        → byte_offset size (fs ++ (a ∷ [])) s ≤ most * length (fs ++ (a ∷ []))
    more fs a h =
        rw (offset-more size fs s a, length-append fs (a ∷ []), mul-add most (length fs) 1, mul-one most)
        (go (byte_offset size fs s) (length fs) (size a.number) h (bound a.number) (ltb s a.number))

-- ---- answers

-- a packet that has arrived is a duplicate
pub answer-duplicate : (size : ℕ → ℕ) (l : List Arrival) (a : Arrival) → has a.number l ≡ true
    → answer_to size l a ≡ Duplicate (record { first = first_record a.number l })
unfolding answer_to
answer-duplicate size l a e = simp e

-- any other is analysed
pub answer-first : (size : ℕ → ℕ) (l : List Arrival) (a : Arrival) → has a.number l ≡ false
    → answer_to size l a ≡ first_answer size (firsts l) a
unfolding answer_to
answer-first size l a e = simp e

-- a first arrival of at least NextExp is in order
pub first-in-order : (size : ℕ → ℕ) (fs : List Arrival) (a : Arrival) → next_exp fs ≤ a.number
    → first_answer size fs a ≡ in_order_answer fs a
unfolding first_answer is_in_order
first-in-order size fs a h = simp (le-leb _ _ h)

-- any other is reordered
pub first-reordered : (size : ℕ → ℕ) (fs : List Arrival) (a : Arrival) → a.number < next_exp fs
    → first_answer size fs a ≡ reordered_answer size fs a (discontinuity fs a.number)
unfolding first_answer is_in_order
first-reordered size fs a h = simp (lt-leb _ _ h)

pub answers-more : (size : ℕ → ℕ) (l : List Arrival) (a : Arrival)
    → answers size (l ++ (a ∷ [])) ≡ answers size l ++ (answer_to size l a ∷ [])
unfolding answers
answers-more size l a = each_more (answer_to size) l a

pub answers-take : (size : ℕ → ℕ) (d : Arrival) (l : List Arrival) (i : ℕ) → i < length l
    → answers size (take (i + 1) l) ≡ answers size (take i l) ++ (answer_to size (take i l) (get_or l i d) ∷ [])
unfolding answers
answers-take size d l i h = each_take (answer_to size) d l i h

-- every record has one answer
pub length-answers : (size : ℕ → ℕ) (l : List Arrival) → length (answers size l) ≡ length l
unfolding answers
length-answers size l = length-each (answer_to size) l

-- ---- counts and runs, over any answers

pub arrived-more : (l : List Answer) (a : Answer) → arrived (l ++ (a ∷ [])) ≡ cond (not (is_duplicate a)) (arrived l + 1) (arrived l)
unfolding arrived
arrived-more l a = count-more (λ (a : Answer). not (is_duplicate a)) l a

pub runs-more : (l : List Answer) (a : Answer) → runs (l ++ (a ∷ [])) ≡ runs_after (runs l) a
unfolding runs
runs-more l a = fold_more runs_after _ l a

pub tally-more : (l : List Answer) (a : Answer) → tally (l ++ (a ∷ [])) ≡ tally_after (tally l) a
unfolding tally
tally-more l a = fold_more tally_after _ l a

-- 1 for a test that is passed
abbrev pub one_if : Bool → ℕ
one_if t = cond t 1 0

-- how many pass a test, under one element more, as a sum
pub count-plus : {A : Type 0} (p : A → Bool) (l : List A) (a : A) → count p (l ++ (a ∷ [])) ≡ count p l + one_if (p a)
count-plus p l a = count-more p l a ∙ go (p a)
  where
    go : (t : Bool) → cond t (count p l + 1) (count p l) ≡ count p l + one_if t
    go true = refl
    go false = omega arith

-- what passes one of two tests, and nothing passes both, is counted by the sum of their counts
count-sum : {A : Type 0} (p q r : A → Bool) → ((a : A) → one_if (r a) ≡ one_if (p a) + one_if (q a))
    → (l : List A) → count r l ≡ count p l + count q l
unfolding count
count-sum {A} p q r sum l = snoc-ind (λ (l : List A). count r l ≡ count p l + count q l) more refl l
  where
    more : (l : List A) (a : A) → count r l ≡ count p l + count q l
        → count r (l ++ (a ∷ [])) ≡ count p (l ++ (a ∷ [])) + count q (l ++ (a ∷ []))
    more l a e =
        omega (arith, count-plus r l a, count-plus p l a, count-plus q l a, e, sum a)

-- every first arrival is in order or reordered
pub in-order-or-reordered : (l : List Answer) → arrived l ≡ count is_in_order_answer l + count is_reordered l
unfolding arrived
in-order-or-reordered l = count-sum is_in_order_answer is_reordered (λ (a : Answer). not (is_duplicate a)) each-one l
  where
    each-one : (a : Answer) → one_if (not (is_duplicate a)) ≡ one_if (is_in_order_answer a) + one_if (is_reordered a)
    each-one (Duplicate d) = refl
    each-one (InOrder d) = refl
    each-one (Reordered d) = refl

count-all : (l : List Answer) → length l ≡ count (λ _. true) l
unfolding count
count-all l = snoc-ind (λ (l : List Answer). length l ≡ count (λ _. true) l) more refl l
  where
    more : (l : List Answer) (a : Answer) → length l ≡ count (λ _. true) l → length (l ++ (a ∷ [])) ≡ count (λ _. true) (l ++ (a ∷ []))
    more l a e = length-append l (a ∷ []) ∙ ap (λ (n : ℕ). n + 1) e ∙ sym (count-more (λ _. true) l a)

-- every record is a duplicate or a first arrival
pub duplicate-or-first : (l : List Answer) → length l ≡ count is_duplicate l + arrived l
unfolding arrived
duplicate-or-first l =
    count-all l ∙ count-sum is_duplicate (λ (a : Answer). not (is_duplicate a)) (λ _. true) each-one l
  where
    each-one : (a : Answer) → 1 ≡ one_if (is_duplicate a) + one_if (not (is_duplicate a))
    each-one (Duplicate d) = refl
    each-one (InOrder d) = refl
    each-one (Reordered d) = refl

-- a first arrival is no duplicate
pub not-duplicate : (size : ℕ → ℕ) (fs : List Arrival) (a : Arrival) → not (is_duplicate (first_answer size fs a)) ≡ true
unfolding first_answer in_order_answer reordered_answer
not-duplicate size fs a = go (is_in_order fs a.number)
  where
    go : (t : Bool) → not (is_duplicate (cond t (in_order_answer fs a) (reordered_answer size fs a (discontinuity fs a.number)))) ≡ true
    go true = refl
    go false = refl

-- L is the number of first arrivals
pub arrived-answers : (size : ℕ → ℕ) (l : List Arrival) → arrived (answers size l) ≡ length (firsts l)
unfolding arrived count answers each each_after firsts
arrived-answers size l = snoc-ind (λ (l : List Arrival). arrived (answers size l) ≡ length (firsts l)) more refl l
  where
    go : (l : List Arrival) (a : Arrival) → arrived (answers size l) ≡ length (firsts l) → (t : Bool) → has a.number l ≡ t
        → cond (not (is_duplicate (answer_to size l a))) (arrived (answers size l) + 1) (arrived (answers size l))
        ≡ length (with_arrival (firsts l) a)
    go l a e true q = rw (answer-duplicate size l a q, with-duplicate (firsts l) a (has-firsts a.number l ∙ q)) e
    go l a e false q =
        rw (
          answer-first size l a q,
          not-duplicate size (firsts l) a,
          with_first (firsts l) a (has-firsts a.number l ∙ q),
          length-append (firsts l) (a ∷ []),
        )
        (ap (λ (n : ℕ). n + 1) e)

    more : (l : List Arrival) (a : Arrival) → arrived (answers size l) ≡ length (firsts l)
        → arrived (answers size (l ++ (a ∷ []))) ≡ length (firsts (l ++ (a ∷ [])))
    more l a e =
        ap arrived (answers-more size l a)
        ∙ arrived-more (answers size l) (answer_to size l a)
        ∙ go l a e (has a.number l) refl
        ∙ sym (ap length (firsts_more l a))

-- every reordered packet closes a run
pub closed-reordered : (l : List Answer) → (runs l).closed ≡ count is_reordered l
unfolding runs runs_after lengthened ended count
closed-reordered l = snoc-ind (λ (l : List Answer). (runs l).closed ≡ count is_reordered l) more refl l
  where
    go : (r : Runs) (n : ℕ) (a : Answer) → r.closed ≡ n → (runs_after r a).closed ≡ cond (is_reordered a) (n + 1) n
    go r n (Duplicate d) e = e
    go r n (InOrder d) e = e
    go r n (Reordered d) e = ap (λ (n : ℕ). n + 1) e

    more : (l : List Answer) (a : Answer) → (runs l).closed ≡ count is_reordered l
        → (runs (l ++ (a ∷ []))).closed ≡ count is_reordered (l ++ (a ∷ []))
    more l a e = rw (runs-more l a, count-more is_reordered l a) (go (runs l) (count is_reordered l) a e)

-- the open run is of in-order packets
pub current-le : (l : List Answer) → (runs l).current ≤ count is_in_order_answer l
unfolding runs runs_after lengthened ended count
current-le l = snoc-ind (λ (l : List Answer). (runs l).current ≤ count is_in_order_answer l) more (omega arith) l
  where
    go : (r : Runs) (n : ℕ) (a : Answer) → r.current ≤ n → (runs_after r a).current ≤ cond (is_in_order_answer a) (n + 1) n
    go r n (Duplicate d) h = h
    go r n (InOrder d) h = omega arith
    go r n (Reordered d) h = omega arith

    more : (l : List Answer) (a : Answer) → (runs l).current ≤ count is_in_order_answer l
        → (runs (l ++ (a ∷ []))).current ≤ count is_in_order_answer (l ++ (a ∷ []))
    more l a h = rw (runs-more l a, count-more is_in_order_answer l a) (go (runs l) (count is_in_order_answer l) a h)

-- where no run is longer than m, the squares of the runs are at most m for each of their packets
pub squares-le : (m : ℕ) (l : List Answer) → arrived l ≤ m → (runs l).squares + m * (runs l).current ≤ m * arrived l
unfolding runs runs_after lengthened ended arrived count
squares-le m l = snoc-ind Bounded more (λ h. omega arith) l
  where
    Bounded : List Answer → Type 0
    Bounded l = arrived l ≤ m → (runs l).squares + m * (runs l).current ≤ m * arrived l

    go : (r : Runs) (n : ℕ) (a : Answer) → r.current ≤ n → (n ≤ m → r.squares + m * r.current ≤ m * n)
        → cond (not (is_duplicate a)) (n + 1) n ≤ m
        → (runs_after r a).squares + m * (runs_after r a).current ≤ m * cond (not (is_duplicate a)) (n + 1) n
    go r n (Duplicate d) c h b = h b
    go r n (InOrder d) c h b =
        let k : r.squares + m * r.current ≤ m * n = h (omega arith) in
        rw (mul-add m r.current 1, mul-add m n 1) (omega arith)
    go r n (Reordered d) c h b =
        let k : r.squares + m * r.current ≤ m * n = h (omega arith) in
        let g : r.current ≤ m = omega arith in
        rw (mul-zero m, mul-add m n 1, mul-one m) (omega (arith, mul-le-mul_right r.current g))

    more : (l : List Answer) (a : Answer) → Bounded l → Bounded (l ++ (a ∷ []))
    more l a h =
        rw (runs-more l a, arrived-more l a)
        (go (runs l) (arrived l) a (omega (arith, current-le l, in-order-or-reordered l)) h)

-- ---- the tally

-- an extent's place is one of the tally's
pub place-lt : (extent : ℕ) → tally_place extent < tally_places
unfolding tally_place
place-lt extent = go (leb extent tally_most) refl
  where
    go : (t : Bool) → leb extent tally_most ≡ t → cond t extent 0 < tally_places
    go true e = omega (arith, leb-true extent tally_most e)
    go false e = omega arith

-- a tally has 101 counts
pub length-tally : (l : List Answer) → length (tally l) ≡ tally_places
unfolding tally tally_after one_more_at
length-tally l = snoc-ind (λ (l : List Answer). length (tally l) ≡ tally_places) more refl l
  where
    go : (t : List ℕ) (a : Answer) → length t ≡ tally_places → length (tally_after t a) ≡ tally_places
    go t (Duplicate d) e = e
    go t (InOrder d) e = e
    go t (Reordered d) e = length-set t _ _ ∙ e

    more : (l : List Answer) (a : Answer) → length (tally l) ≡ tally_places → length (tally (l ++ (a ∷ []))) ≡ tally_places
    more l a e = ap length (tally-more l a) ∙ go (tally l) a e

-- one more at a place is at most one more at any
one-more-le : (at : ℕ) (t : List ℕ) (k : ℕ) → get_or (one_more_at at t) k 0 ≤ get_or t k 0 + 1
unfolding one_more_at
one-more-le at t k = here (eqb k at) refl
  where
    inside : (b : Bool) → ltb at (length t) ≡ b → get_or (set t at (get_or t at 0 + 1)) at 0 ≤ get_or t at 0 + 1
    inside true e = le_of_eq (get_or-set_same t at _ 0 (ltb-true at (length t) e))
    inside false e = rw (set_out t at (get_or t at 0 + 1) (ltb-false at (length t) e)) (omega arith)

    here : (b : Bool) → eqb k at ≡ b → get_or (set t at (get_or t at 0 + 1)) k 0 ≤ get_or t k 0 + 1
    here true e = rw (eqb-true k at e) (inside (ltb at (length t)) refl)
    here false e = rw (get_or-set_other t at k (get_or t at 0 + 1) 0 (eqb-false k at e)) (omega arith)

-- no count of a tally is above the number of the answers
pub tally-le : (l : List Answer) (k : ℕ) → get_or (tally l) k 0 ≤ length l
unfolding tally tally_after
tally-le l k = snoc-ind (λ (l : List Answer). get_or (tally l) k 0 ≤ length l) more (le_of_eq (zeros tally_places k)) l
  where
    go : (t : List ℕ) (n : ℕ) (a : Answer) → get_or t k 0 ≤ n → get_or (tally_after t a) k 0 ≤ n + 1
    go t n (Duplicate d) h = omega arith
    go t n (InOrder d) h = omega arith
    go t n (Reordered d) h = omega (arith, one-more-le (tally_place d.extent) t k)

    more : (l : List Answer) (a : Answer) → get_or (tally l) k 0 ≤ length l → get_or (tally (l ++ (a ∷ []))) k 0 ≤ length (l ++ (a ∷ []))
    more l a h = rw (tally-more l a, length-append l (a ∷ [])) (go (tally l) (length l) a h)
