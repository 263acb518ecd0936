-- The total of disorder of a file. The tree counts the first arrivals by number: its sum up to a number, and the number of first arrivals
-- above it, make up all (`lower-sum`). The next first arrival makes a wrong pair with each number above its own, and is counted at its
-- number (`paired-more`). The table of packets tells whether an arrival is a first one (`firsts-seen`). If all sizes are 1, the total is
-- the sum of the byte offsets (`sums-offsets`), since the packet of each arrival has one of the sizes. fs are the first arrivals, a is
-- the next one, p has their number, the number of their wrong pairs and a number that none exceeds; k is the greatest index of the tree,
-- d the decoded file, y its layout, i the number of records before, n the number of record i + 1. A prime marks the tree after it.
-- Assumes nothing.
use mathlib.Core.Path.{◌≡◌, refl, sym, ap, ◌∙◌}
use mathlib.Core.Bool.{Bool, true, false, cond}
use mathlib.Core.List.{List, [], ◌∷◌, ◌++◌}
use Prim.Native.Nat.{ℕ, ◌+◌, ◌-◌, ◌≤◌, ◌<◌}
use native.Mathlib.Omega.{arith}
use lib.ListN.{length, get_or, set, replicate, length-replicate, get_or-replicate, length-append}
use lib.Seq.{take_all}
use borrow.Author.Tests.{lt-ltb, le-ltb}
use Rattle.rfc4737.specs.declared.Arrival.{Arrival}
use Rattle.rfc4737.specs.Arrivals.{firsts, with_arrival, count}
use Rattle.rfc4737.specs.Judge.{sent_most, arrivals_most}
use Rattle.rfc4737.specs.Order.{next_exp}
use Rattle.rfc4737.specs.Extent.{size_in, byte_offset}
use Rattle.disorder.specs.Disorder.{pairs, wrong_pairs}
use Rattle.rfc4737.proofs.Lists.{All, all_take}
use Rattle.disorder.proofs.Disorder.{SizeOne, sum-wrong, wrong-more}
use Rattle.rfc4737.proofs.Arrivals.{has-firsts, firsts_more}
use Rattle.rfc4737.proofs.Folds.{offset-more, offset-le}
use Rattle.sums.specs.Tree.{Added, sum_to}
use Rattle.sums.proofs.Summed.{summed-none, summed-more, sum-summed}
use Rattle.sample.specs.declared.Layout.{Layout}
use Rattle.sample.specs.Decode.{Decoded, sample_of}
use Rattle.metrics.specs.Sample.{size_of, sample_arrivals}
use Rattle.sample.specs.Places.{no_arrival}
use Rattle.metrics.specs.Records.{arrival_at, before, FileLayout, HasRecord}
use Rattle.disorder.specs.Sample.{disorder_of, SumsOffsets}
use Rattle.disorder.specs.Private.{PairTree}
use Rattle.disorder.specs.declared.pairs.Pairs.{Pairs}
use Rattle.metrics.proofs.CountsBySeen.{SeenPackets, seen_start, seen_next}
use Rattle.metrics.proofs.TablesFollow.{arrivals-laid, before_more}

-- what holds at every place holds of every element
all-at : (P : Arrival → Type 0) (l : List Arrival) → ((i : ℕ) → i < length l → P (get_or l i no_arrival)) → All P l
all-at P l h = rw (take_all (length l) l (omega arith)) at (all_take P no_arrival l (length l) h)

-- every arrival's packet has one of the sizes
sizes-one : (d : Decoded) (y : Layout) → FileLayout d y → (sample_of d).sizes ≡ replicate (length (sample_of d).sizes) 1
    → All (SizeOne (size_of d)) (sample_arrivals d)
unfolding size_in
sizes-one d y h e = all-at (SizeOne (size_of d)) (sample_arrivals d) (λ i g. one i (h.numbers i (omega (arith, arrivals-laid d y h))))
  where
    one : (i : ℕ) → (1 ≤ (arrival_at d i).number) × ((arrival_at d i).number ≤ y.sent)
        → get_or (sample_of d).sizes ((arrival_at d i).number - 1) 0 ≡ 1
    one i n =
        ap (λ (l : List ℕ). get_or l ((arrival_at d i).number - 1) 0) e
        ∙ get_or-replicate (length (sample_of d).sizes) ((arrival_at d i).number - 1) 1 0
        (omega (arith, n, ap (λ (y : Layout). y.sent) h.laid))

-- if all its sizes are 1, the total is the sum of the byte offsets
pub sums-offsets : (d : Decoded) (y : Layout) → FileLayout d y → SumsOffsets d
unfolding disorder_of
sums-offsets d y h ones = sum-wrong (size_of d) (sample_arrivals d) (sizes-one d y h ones)

-- ---- the pairs, one first arrival after the other

-- of none
pub paired-start : (k : ℕ) (d : Decoded) (p : Pairs) → (p.count ≡ 0) × ((p.wrong ≡ 0) × (p.greatest ≡ 0))
    → PairTree k (firsts (before d 0)) (replicate (k + 1) 0) p
unfolding firsts wrong_pairs pairs count byte_offset
paired-start k d p none =
    record {
      places = length-replicate (k + 1) 0;
      summed = summed-none _ (k + 1) (λ i. refl);
      count = none.0;
      whole = none.0;
      wrong = none.1.0;
      small = omega (arith, none.0, none.1);
      above = λ s h. refl;
    }

-- the sums are small
ones-few : (fs : List Arrival) (s : ℕ) → byte_offset (λ _. 1) fs s ≤ length fs
ones-few fs s = omega (arith, offset-le (λ _. 1) 1 (λ _. omega arith) fs s)

-- the tree gives how many have a number up to one, and with those above it all
pub lower-sum : (k : ℕ) (fs : List Arrival) (tree : List ℕ) (p : Pairs) → PairTree k fs tree p → p.count < arrivals_most → (number : ℕ)
    → number < length tree
    → sum_to tree number + byte_offset (λ _. 1) fs number ≡ p.count
lower-sum k fs tree p h few number inside = sum-summed _ tree h.summed number inside (omega (arith, h.whole)) ∙ sym h.whole

-- of one more: w are the wrong pairs then, and g a number that none is above
pub paired-more : (k : ℕ) (fs : List Arrival) (a : Arrival) (tree tree' : List ℕ) (p : Pairs) → 1 ≤ a.number → p.count < arrivals_most
    → PairTree k fs tree p
    → Added a.number 1 tree tree' → (w g : ℕ) → w ≡ p.wrong + byte_offset (λ _. 1) fs a.number → p.greatest ≤ g → a.number ≤ g
    → PairTree k (fs ++ (a ∷ [])) tree' (record { count = p.count + 1; wrong = w; greatest = g })
paired-more k fs a tree tree' p low few h added w g is up own =
    let more = length-append fs (a ∷ []) in
    record {
      places = added.places ∙ h.places;
      summed =
          summed-more _ tree h.summed a.number 1 tree' _ added (λ i. offset-more (λ _. 1) fs i a)
          (λ i. omega (arith, ones-few (fs ++ (a ∷ [])) i, h.count, more));
      count = omega (arith, h.count, more);
      whole = sym (offset-more (λ _. 1) fs 0 a ∙ rw (lt-ltb 0 a.number low, ← h.whole));
      wrong = omega (arith, wrong-more fs a, h.wrong, is);
      small = omega (arith, h.small, is, ones-few fs a.number, h.count, few);
      above = λ s q. offset-more (λ _. 1) fs s a ∙ rw (le-ltb s a.number (omega (arith, own, q)), h.above s (omega (arith, up, q)));
    }

-- the table of the packets that have arrived before record i + 1
abbrev pub SeenTable : Decoded → ℕ → List Bool → Type 0
SeenTable d i seen = SeenPackets (before d i) seen (next_exp (firsts (before d i)))

-- of none
pub arrived-start : (d : Decoded) → SeenTable d 0 (replicate (sent_most + 1) false)
arrived-start d = let s = seen_start d in record { places = s.places; at = s.at; expected = refl }

-- after the next arrival
pub arrived-next : (d : Decoded) (y : Layout) (i : ℕ) → HasRecord d y i → (seen : List Bool) → SeenTable d i seen → (n : ℕ)
    → n ≡ (arrival_at d i).number → n ≤ sent_most → SeenTable d (i + 1) (set seen n true)
arrived-next d y i h seen f n is high =
    let s = seen_next d y i h seen _ f n is high in
    record { places = s.places; at = s.at; expected = refl }

-- the first arrivals after the next arrival, by the table of those that have arrived
pub firsts-seen : (d : Decoded) (y : Layout) (i : ℕ) → HasRecord d y i → (seen : List Bool) → SeenTable d i seen → (n : ℕ)
    → n ≡ (arrival_at d i).number → n ≤ sent_most
    → firsts (before d (i + 1)) ≡ cond (get_or seen n false) (firsts (before d i)) (firsts (before d i) ++ (arrival_at d i ∷ []))
unfolding with_arrival
firsts-seen d y i h seen f n is high =
    ap firsts (before_more d y i h) ∙ firsts_more (before d i) (arrival_at d i)
    ∙ rw (f.at n high, ← has-firsts n (before d i), is)

-- all pairs
pub disorder-end : (d : Decoded) (y : Layout) (i : ℕ) → FileLayout d y → y.arrivals ≤ i → (k : ℕ) (tree : List ℕ) (p : Pairs)
    → PairTree k (firsts (before d i)) tree p
    → p.wrong ≡ disorder_of d
unfolding disorder_of
disorder-end d y i h end k tree p t =
    t.wrong ∙ ap (λ (l : List Arrival). wrong_pairs (firsts l)) (take_all i (sample_arrivals d) (omega (arith, arrivals-laid d y h)))
