-- The total of disorder. If every payload size is 1, a byte offset is the number of greater numbers before it (`offset-higher`), 0 for a
-- packet in order (`higher-next`). The next first arrival adds that many pairs in the wrong order (`wrong-snoc`). So the sum of the byte
-- offsets is the number of wrong pairs (`sum-wrong`, by induction over the arrivals from the end). That number is the least number of
-- exchanges of neighbours that sorts the first arrivals (`wrong-least`). Fewer do not suffice: an exchange changes the order of one pair,
-- so it removes at most one wrong pair (`exchange-wrong`), and sorted arrivals have none (`rising_none`). That number suffices: from the
-- last arrival on, each is moved past the smaller numbers among the sorted arrivals after it (`insert`), and these are its wrong pairs
-- (`sort`). For this the numbers of first arrivals must differ (`firsts-differ`). l and m are arrivals before and after an exchange, a
-- and b two of them, fs first arrivals, s is a number, p a test and n the number of exchanges. Assumes nothing.
use Prim.Native.Nat.{ℕ, suc, ◌+◌, ◌≤◌, ◌<◌}
use mathlib.Core.Path.{◌≡◌, refl, sym, ap, ◌∙◌}
use mathlib.Core.Bool.{Bool, true, false, cond, ◌||◌}
use mathlib.Core.List.{List, [], ◌∷◌, ◌++◌, map}
use native.Mathlib.Nat.{add-zero, zero-add, suc-add}
use native.Mathlib.Omega.{arith}
use lib.Dec.{ltb, leb, eqb}
use borrow.Author.Rules.{rules}
use borrow.Author.Tests.{ltb-true, ltb-false, le-ltb, leb-true, leb-false, eqb-false}
use Rattle.rfc4737.specs.declared.Arrival.{Arrival}
use Rattle.rfc4737.specs.declared.Answer.{Answer}
use Rattle.rfc4737.specs.Arrivals.{has, firsts, with_arrival, count, each, each_after}
use Rattle.rfc4737.specs.Order.{next_after, next_exp, is_in_order}
use Rattle.rfc4737.specs.Extent.{byte_offset, discontinuity}
use Rattle.rfc4737.specs.Answer.{in_order_answer, reordered_answer, first_answer, answer_to, answers}
use Rattle.disorder.specs.Disorder.{offset_in, offset_sum, pairs, is_wrong, wrong_pairs, Exchange, here, after, Exchanges, none, one, Rising, Least, OffsetsCountPairs}
use Rattle.rfc4737.proofs.Lists.{snoc-ind, All, Ordered, all_left, all_right, all-weaken, ordered-more}
use Rattle.rfc4737.proofs.Arrivals.{fold_more, firsts_more, has-firsts, with-duplicate, with_first}
use Rattle.rfc4737.proofs.Folds.{one_if, count-plus, next_more, offset-more, answers-more, answer-duplicate, answer-first}
use Rattle.rfc4737.proofs.Packets.{with_cases, all_firsts}

-- ---- counts from the front

one-most : (t : Bool) → one_if t ≤ 1
one-most true = omega arith
one-most false = omega arith

module _ {A : Type 0} (p : A → Bool) where
  count-cons : (a : A) (l : List A) → count p (a ∷ l) ≡ one_if (p a) + count p l
  unfolding count
  count-cons a = snoc-ind (λ (l : List A). count p (a ∷ l) ≡ one_if (p a) + count p l) more (sym (add-zero (one_if (p a))))
    where
      more : (l : List A) (b : A) → count p (a ∷ l) ≡ one_if (p a) + count p l
          → count p (a ∷ l ++ (b ∷ [])) ≡ one_if (p a) + count p (l ++ (b ∷ []))
      more l b e = omega (arith, e, count-plus p (a ∷ l) b, count-plus p l b)

  count-append : (l m : List A) → count p (l ++ m) ≡ count p l + count p m
  unfolding count
  count-append [] m = omega arith
  count-append (a ∷ l) m = omega (arith, count-cons a (l ++ m), count-cons a l, count-append l m)

  count_none : (l : List A) → All (λ (a : A). p a ≡ false) l → count p l ≡ 0
  unfolding count
  count_none [] h = refl
  count_none (a ∷ l) h = rw (count-cons a l, h.0, count_none l h.1)

pub count_map : {A B : Type 0} (p : B → Bool) (f : A → B) (l : List A) → count p (map f l) ≡ count (λ (a : A). p (f a)) l
unfolding count
count_map p f [] = refl
count_map {A} p f (a ∷ l) = omega (arith, count-cons p (f a) (map f l), count-cons (λ (a : A). p (f a)) a l, count_map p f l)

-- how many numbers are less than s, and how many greater
abbrev pub lower : ℕ → List Arrival → ℕ
lower s l = count (λ (b : Arrival). ltb b.number s) l

abbrev higher : ℕ → List Arrival → ℕ
higher s l = count (λ (b : Arrival). ltb s b.number) l

-- ---- pairs in the wrong order

-- an arrival more at the front, and at the end
pub wrong-cons : (a : Arrival) (l : List Arrival) → wrong_pairs (a ∷ l) ≡ lower a.number l + wrong_pairs l
unfolding wrong_pairs pairs
wrong-cons a l =
    count-append is_wrong (map (λ (b : Arrival). (a, b)) l) (pairs l)
    ∙ ap (λ (n : ℕ). n + count is_wrong (pairs l)) (count_map is_wrong (λ (b : Arrival). (a, b)) l)

wrong-snoc : (l : List Arrival) (b : Arrival) → wrong_pairs (l ++ (b ∷ [])) ≡ wrong_pairs l + higher b.number l
unfolding wrong_pairs pairs count
wrong-snoc [] b = refl
wrong-snoc (a ∷ l) b =
    omega (
      arith,
      wrong-cons a (l ++ (b ∷ [])),
      wrong-cons a l,
      wrong-snoc l b,
      count-plus (λ (b : Arrival). ltb b.number a.number) l b,
      count-cons (λ (a : Arrival). ltb b.number a.number) a l,
    )

-- ---- the sum of the byte offsets

-- an arrival has payload size 1
abbrev pub SizeOne : (ℕ → ℕ) → Arrival → Type 0
SizeOne size a = size a.number ≡ 1

-- with sizes 1 a byte offset is how many numbers are greater
offset-higher : (size : ℕ → ℕ) (s : ℕ) (fs : List Arrival) → All (SizeOne size) fs → byte_offset size fs s ≡ higher s fs
unfolding byte_offset count
offset-higher size s = snoc-ind (λ (fs : List Arrival). All (SizeOne size) fs → byte_offset size fs s ≡ higher s fs) more (λ h. refl)
  where
    more : (fs : List Arrival) (a : Arrival) → (All (SizeOne size) fs → byte_offset size fs s ≡ higher s fs)
        → All (SizeOne size) (fs ++ (a ∷ [])) → byte_offset size (fs ++ (a ∷ [])) s ≡ higher s (fs ++ (a ∷ []))
    more fs a h g =
        rw (
          offset-more size fs s a,
          count-plus (λ (b : Arrival). ltb s b.number) fs a,
          (all_right (SizeOne size) fs (a ∷ []) g).0,
          h (all_left (SizeOne size) fs (a ∷ []) g),
        )

-- where every size is 1
all_ones : (l : List Arrival) → All (SizeOne (λ _. 1)) l
all_ones [] = tt
all_ones (a ∷ l) = (refl, all_ones l)

-- the next first arrival makes as many pairs more as its byte offset is with sizes 1
pub wrong-more : (fs : List Arrival) (b : Arrival) → wrong_pairs (fs ++ (b ∷ [])) ≡ wrong_pairs fs + byte_offset (λ _. 1) fs b.number
wrong-more fs b = wrong-snoc fs b ∙ ap (λ (n : ℕ). wrong_pairs fs + n) (sym (offset-higher (λ _. 1) b.number fs (all_ones fs)))

-- none is greater than a number that is in order
higher-next : (s : ℕ) (fs : List Arrival) → next_exp fs ≤ s → higher s fs ≡ 0
unfolding count next_exp next_after
higher-next s = snoc-ind (λ (fs : List Arrival). next_exp fs ≤ s → higher s fs ≡ 0) more (λ h. refl)
  where
    more : (fs : List Arrival) (a : Arrival) → (next_exp fs ≤ s → higher s fs ≡ 0) → next_exp (fs ++ (a ∷ [])) ≤ s
        → higher s (fs ++ (a ∷ [])) ≡ 0
    more fs a h g = go (leb (next_exp fs) a.number) refl (rw (next_more fs a) at g)
      where
        last : a.number ≤ s → next_exp fs ≤ s → higher s (fs ++ (a ∷ [])) ≡ 0
        last low k = rw (count-plus (λ (b : Arrival). ltb s b.number) fs a, le-ltb s a.number low, h k)

        go : (t : Bool) → leb (next_exp fs) a.number ≡ t → cond t (a.number + 1) (next_exp fs) ≤ s → higher s (fs ++ (a ∷ [])) ≡ 0
        go true e k = last (omega arith) (omega (arith, leb-true (next_exp fs) a.number e))
        go false e k = last (omega (arith, leb-false (next_exp fs) a.number e)) k

sum_more : (l : List Answer) (a : Answer) → offset_sum (l ++ (a ∷ [])) ≡ offset_sum l + offset_in a
unfolding offset_sum
sum_more l a = fold_more _ 0 l a

-- the byte offset of a first arrival, in order or reordered
offset-first : (size : ℕ → ℕ) (fs : List Arrival) (a : Arrival) → All (SizeOne size) fs
    → offset_in (first_answer size fs a) ≡ higher a.number fs
unfolding first_answer is_in_order in_order_answer reordered_answer
offset-first size fs a h = go (leb (next_exp fs) a.number) refl
  where
    go : (t : Bool) → leb (next_exp fs) a.number ≡ t
        → offset_in (cond t (in_order_answer fs a) (reordered_answer size fs a (discontinuity fs a.number))) ≡ higher a.number fs
    go true e = sym (higher-next a.number fs (leb-true (next_exp fs) a.number e))
    go false e = offset-higher size a.number fs h

-- with every payload size 1 the sum of the byte offsets is the number of pairs of first arrivals in the wrong order
pub sum-wrong : (size : ℕ → ℕ) (l : List Arrival) → All (SizeOne size) l
    → offset_sum (answers size l) ≡ wrong_pairs (firsts l)
unfolding offset_sum answers each each_after firsts wrong_pairs pairs count
sum-wrong size = snoc-ind (λ (l : List Arrival). All (SizeOne size) l → offset_sum (answers size l) ≡ wrong_pairs (firsts l)) more (λ h. refl)
  where
    more : (l : List Arrival) (a : Arrival) → (All (SizeOne size) l → offset_sum (answers size l) ≡ wrong_pairs (firsts l))
        → All (SizeOne size) (l ++ (a ∷ [])) → offset_sum (answers size (l ++ (a ∷ []))) ≡ wrong_pairs (firsts (l ++ (a ∷ [])))
    more l a h g =
        rw (answers-more size l a, sum_more (answers size l) (answer_to size l a), firsts_more l a, h ones) (go (has a.number l) refl)
      where
        ones : All (SizeOne size) l
        ones = all_left (SizeOne size) l (a ∷ []) g

        go : (t : Bool) → has a.number l ≡ t
            → wrong_pairs (firsts l) + offset_in (answer_to size l a) ≡ wrong_pairs (with_arrival (firsts l) a)
        go true e =
            rw (answer-duplicate size l a e, with-duplicate (firsts l) a (has-firsts a.number l ∙ e)) (add-zero (wrong_pairs (firsts l)))
        go false e =
            rw (answer-first size l a e, with_first (firsts l) a (has-firsts a.number l ∙ e), wrong-snoc (firsts l) a)
            (ap (λ (n : ℕ). wrong_pairs (firsts l) + n) (offset-first size (firsts l) a (all_firsts (SizeOne size) l ones)))

-- ---- exchanges of neighbours

-- they change no count
exchange-count : (p : Arrival → Bool) {l m : List Arrival} → Exchange l m → count p l ≡ count p m
exchange-count p (here {a} {b} {l}) = omega (arith, count-cons p a (b ∷ l), count-cons p b l, count-cons p b (a ∷ l), count-cons p a l)
exchange-count p (after {a} {l} {m} x) = omega (arith, count-cons p a l, count-cons p a m, exchange-count p x)

exchanges-count : (p : Arrival → Bool) {n : ℕ} {l m : List Arrival} → Exchanges n l m → count p l ≡ count p m
exchanges-count p none = refl
exchanges-count p (one x xs) = exchange-count p x ∙ exchanges-count p xs

-- what holds of every arrival holds of them after exchanges
exchange-all : (P : Arrival → Type 0) {l m : List Arrival} → Exchange l m → All P l → All P m
exchange-all P here h = (search rules, (search rules, h.1.1))
exchange-all P (after x) h = (h.0, exchange-all P x h.1)

exchanges-all : (P : Arrival → Type 0) {n : ℕ} {l m : List Arrival} → Exchanges n l m → All P l → All P m
exchanges-all P none h = h
exchanges-all P (one x xs) h = exchanges-all P xs (exchange-all P x h)

-- exchanges after another arrival
exchanges-after : (a : Arrival) {n : ℕ} {l m : List Arrival} → Exchanges n l m → Exchanges n (a ∷ l) (a ∷ m)
exchanges-after a none = none
exchanges-after a (one x xs) = one (after x) (exchanges-after a xs)

-- exchanges one after the other
exchanges-join : {i j : ℕ} {k l m : List Arrival} → Exchanges i k l → Exchanges j l m → Exchanges (i + j) k m
exchanges-join {i} {j} none ys = rw (zero-add j) ys
exchanges-join {i} {j} (one {n} x xs) ys = rw (suc-add n j) (one x (exchanges-join xs ys))

-- an exchange takes at most one pair from those in the wrong order
exchange-wrong : {l m : List Arrival} → Exchange l m → wrong_pairs l ≤ wrong_pairs m + 1
exchange-wrong (here {a} {b} {l}) =
    omega (
      arith,
      wrong-cons a (b ∷ l),
      wrong-cons b l,
      wrong-cons b (a ∷ l),
      wrong-cons a l,
      count-cons (λ (c : Arrival). ltb c.number a.number) b l,
      count-cons (λ (c : Arrival). ltb c.number b.number) a l,
      one-most (ltb b.number a.number),
    )
exchange-wrong (after {a} {l} {m} x) =
    omega (arith, wrong-cons a l, wrong-cons a m, exchange-count (λ (c : Arrival). ltb c.number a.number) x, exchange-wrong x)

exchanges-wrong : {n : ℕ} {l m : List Arrival} → Exchanges n l m → wrong_pairs l ≤ wrong_pairs m + n
exchanges-wrong none = omega arith
exchanges-wrong (one x xs) = omega (arith, exchange-wrong x, exchanges-wrong xs)

-- ---- rising order

-- the number of the first is less than that of the second
abbrev Less : Arrival → Arrival → Type 0
Less a b = a.number < b.number

-- each less than the next, each less than all after it
rising-all : (a : Arrival) (l : List Arrival) → Rising (a ∷ l) → All (Less a) l
rising-all a [] h = tt
rising-all a (b ∷ l) h = (h.0, all-weaken (λ (c : Arrival) (g : Less b c). omega arith) l (rising-all b l h.1))

rising-rest : (a : Arrival) (l : List Arrival) → Rising (a ∷ l) → Rising l
rising-rest a [] h = tt
rising-rest a (b ∷ l) h = h.1

rising-more : (a : Arrival) (l : List Arrival) → All (Less a) l → Rising l → Rising (a ∷ l)
rising-more a [] h g = tt
rising-more a (b ∷ l) h g = (h.0, g)

-- none is less than one before all of them
lower-none : (a : Arrival) (l : List Arrival) → All (Less a) l → lower a.number l ≡ 0
lower-none a l h = count_none _ l (all-weaken (λ (b : Arrival) (g : Less a b). le-ltb b.number a.number (omega arith)) l h)

-- no pair is in the wrong order
rising_none : (l : List Arrival) → Rising l → wrong_pairs l ≡ 0
unfolding wrong_pairs pairs count
rising_none [] h = refl
rising_none (a ∷ l) h = omega (arith, wrong-cons a l, lower-none a l (rising-all a l h), rising_none l (rising-rest a l h))

-- ---- a way to rising order

-- arrivals reach rising order by n exchanges
record Sorted (n : ℕ) (l : List Arrival) : Type 0 where
  order : List Arrival
  rises : Rising order
  reached : Exchanges n l order

-- the numbers of two arrivals differ
abbrev Differ : Arrival → Arrival → Type 0
Differ a b = a.number ≡ b.number → ⊥

-- an arrival before others in rising order passes those of a smaller number
insert : (a : Arrival) (l : List Arrival) → Rising l → All (Differ a) l → Sorted (lower a.number l) (a ∷ l)
unfolding count
insert a [] h d = record { order = a ∷ []; rises = tt; reached = none }
insert a (b ∷ l) h d = go (insert a l (rising-rest b l h) d.1) (ltb b.number a.number) refl
  where
    go : Sorted (lower a.number l) (a ∷ l) → (t : Bool) → ltb b.number a.number ≡ t
        → Sorted (lower a.number (b ∷ l)) (a ∷ b ∷ l)
    go s true e =
        let n : lower a.number (b ∷ l) ≡ suc (lower a.number l) =
        rw (count-cons (λ (c : Arrival). ltb c.number a.number) b l, e) (omega arith) in
        record {
          order = b ∷ s.order;
          rises =
              rising-more b s.order (exchanges-all (Less b) s.reached (ltb-true b.number a.number e, rising-all b l h))
              s.rises;
          reached = rw n (one here (exchanges-after b s.reached));
        }
    go s false e =
        let g : Less a b = omega (arith, ltb-false b.number a.number e, d.0) in
        let r : Rising (a ∷ b ∷ l) = (g, h) in
        record { order = a ∷ b ∷ l; rises = r; reached = rw (lower-none a (b ∷ l) (rising-all a (b ∷ l) r)) none }

-- from the last arrival on, each in turn
sort : (l : List Arrival) → Ordered Differ l → Sorted (wrong_pairs l) l
unfolding wrong_pairs pairs count
sort [] d = record { order = []; rises = tt; reached = none }
sort (a ∷ l) d =
    let s = sort l d.1 in
    let t = insert a s.order s.rises (exchanges-all (Differ a) s.reached d.0) in
    let n : wrong_pairs (a ∷ l) ≡ wrong_pairs l + lower a.number s.order =
    omega (arith, wrong-cons a l, exchanges-count (λ (c : Arrival). ltb c.number a.number) s.reached) in
    record { order = t.order; rises = t.rises; reached = rw n (exchanges-join (exchanges-after a s.reached) t.reached) }

-- a packet that is not among some differs from each of them
has-none : (a : Arrival) (l : List Arrival) → has a.number l ≡ false → All (λ (b : Arrival). Differ b a) l
unfolding has
has-none a [] e = tt
has-none a (b ∷ l) e = go (has-none a l) (eqb b.number a.number) refl e
  where
    go : (has a.number l ≡ false → All (λ (b : Arrival). Differ b a) l) → (t : Bool) → eqb b.number a.number ≡ t
        → (t || has a.number l) ≡ false → All (λ (b : Arrival). Differ b a) (b ∷ l)
    go rest true q z = let n : ◌≡◌ {A = ℕ} 0 1 = cc in absurd (omega arith)
    go rest false q z = (eqb-false b.number a.number q, rest z)

-- so the packets of first arrivals differ
firsts-differ : (l : List Arrival) → Ordered Differ (firsts l)
unfolding firsts
firsts-differ = snoc-ind (λ (l : List Arrival). Ordered Differ (firsts l)) more tt
  where
    more : (l : List Arrival) (a : Arrival) → Ordered Differ (firsts l) → Ordered Differ (firsts (l ++ (a ∷ [])))
    more l a h =
        rw firsts_more (with_cases (Ordered Differ) (firsts l) a h (λ new. ordered-more Differ (firsts l) a h (has-none a (firsts l) new)))

-- the number of pairs of first arrivals in the wrong order is the least number of exchanges
pub wrong-least : (l : List Arrival) → Least (firsts l) (wrong_pairs (firsts l))
wrong-least l =
    let s = sort (firsts l) (firsts-differ l) in
    record {
      order = s.order;
      rises = s.rises;
      reached = s.reached;
      least = λ m gs r x. omega (arith, exchanges-wrong x, rising_none gs r);
    }

-- with the size that is 1 of any packet
pub offsets-count-pairs : OffsetsCountPairs
offsets-count-pairs l = sum-wrong (λ _. 1) l (all_ones l)
