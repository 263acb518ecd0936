-- How noting record i + 1 changes the tables and the links, by the kind of its packet. The table of records says whether it has arrived;
-- then the laws of `TablesFollow` and of `Links` are put together. A copy leaves both, and a number past those of the first arrivals
-- changes nothing (`numbers-past`, `noted-copy`). A reordered packet leaves its
-- largest n as a link in place of its discontinuity (`noted-reordered`). One in order fills the entries of the packets that it skips, and
-- has the link 0, which is there already (`noted-in-order`). Last, the same of a record of a file.
-- Here l are arrivals, a the next one, m that there are i of them, is that a has this number, f that the tables follow l, lar that
-- `largest` is its largest n, and k that the links are those of l. A prime marks the values after it. Assumes nothing.
use mathlib.Core.Path.{◌≡◌, sym, ap, ◌∙◌}
use mathlib.Core.Bool.{true, false}
use mathlib.Core.List.{List, [], ◌∷◌, ◌++◌}
use Prim.Native.Nat.{ℕ, ◌+◌, ◌≤◌, ◌<◌}
use native.Mathlib.Omega.{arith}
use lib.ListN.{get_or, set, length-set}
use lib.Seq.{get_or-set_other}
use Rattle.rfc4737.specs.declared.Arrival.{Arrival}
use Rattle.rfc4737.specs.Arrivals.{has, firsts}
use Rattle.rfc4737.specs.Order.{next_exp}
use Rattle.rfc4737.specs.Extent.{largest_n}
use Rattle.rfc4737.proofs.Arrivals.{has-firsts, firsts-duplicate, firsts-first, length-firsts}
use Rattle.rfc4737.specs.Judge.{sent_most, arrivals_most}
use Rattle.sample.specs.declared.Layout.{Layout}
use Rattle.sample.specs.Decode.{Decoded}
use Rattle.metrics.specs.Records.{arrival_at, before, HasRecord}
use Rattle.metrics.specs.Private.Tables.{Filled, EngineTables, LinkTable, NextRecord, NotedRecord, NextSeen, NotedSeen, SeenAt}
use Rattle.metrics.specs.declared.engine.seen.Seen.{Seen}
use Rattle.metrics.specs.declared.engine.seen.State.{State}
use Rattle.metrics.proofs.TablesFollow.{kept-copy, kept-reordered, kept-in-order, arrived-recorded, new-recorded, before_more, before-length}
use Rattle.metrics.proofs.Links.{linked-set, linked-in-order}

-- where a record can be noted there are fewer first arrivals than places
pub noting-few : (numbers records skipped : List ℕ) (state : State) (i number : ℕ) → NextRecord numbers records skipped state i number
    → state.count < sent_most
noting-few numbers records skipped state i number n = omega (arith, n.follows.numbered.all, length-firsts n.earlier, n.many, n.few)

-- a number past those of the first arrivals changes nothing
numbers-past : (l : List Arrival) (numbers records skipped : List ℕ) (state : State) (number : ℕ)
    → EngineTables l numbers records skipped state → EngineTables l (set numbers state.count number) records skipped state
numbers-past l numbers records skipped state number f =
    record {
      places = (length-set numbers state.count number ∙ f.places.0, f.places.1, f.places.2);
      numbered = record {
        all = f.numbered.all;
        at = λ p h. get_or-set_other numbers state.count p number 0 (λ e. omega (arith, f.numbered.all)) ∙ f.numbered.at p h;
      };
      next = f.next;
      recorded = f.recorded;
      skips = f.skips;
    }

module _ (i largest : ℕ) (numbers records skipped : List ℕ) (state : State) (few : i < arrivals_most) where
  -- of a copy: all stays
  pub noted-copy : (number : ℕ) → 1 ≤ number → number ≤ sent_most → (get_or records number 0 ≡ 0 → ⊥)
      → NotedRecord i number largest numbers records skipped state (set numbers state.count number) records skipped state
  noted-copy number low high e =
      record {
        follows = λ l a m is f.
            numbers-past (l ++ (a ∷ [])) numbers records skipped state number (kept-copy l a numbers records skipped state f (arrived l a is f));
        linked = λ l a m is f lar k. rw (firsts-duplicate l a (arrived l a is f)) k;
      }
    where
      arrived : (l : List Arrival) (a : Arrival) → a.number ≡ number → EngineTables l numbers records skipped state
          → has a.number l ≡ true
      arrived l a is f = rw is (arrived-recorded l numbers records skipped state f number low high e)

  module _ (number : ℕ) (low : 1 ≤ number) (high : number ≤ sent_most) (e : get_or records number 0 ≡ 0) where
    -- a packet without a record is new
    new : (l : List Arrival) (a : Arrival) → a.number ≡ number → EngineTables l numbers records skipped state → has a.number l ≡ false
    new l a is f = rw is (new-recorded l numbers records skipped state f number low high e)

    -- of a reordered packet
    pub noted-reordered : number < state.next
        → NotedRecord i number largest numbers records skipped state (set numbers state.count number) (set records number (i + 1))
        (set skipped number largest)
        (record { count = state.count + 1; next = state.next })
    noted-reordered late =
        record {
          follows = λ l a m is f.
              rw (← m, ← is)
              (kept-reordered l a numbers records skipped state f (new l a is f) (omega arith) (omega arith) (omega arith) largest
              (omega arith));
          linked = λ l a m is f lar k.
              let own : largest ≡ largest_n (firsts l) a.number =
              lar (ap (λ (s : ℕ). has s l) (sym is) ∙ new l a is f) (omega arith) ∙ ap (largest_n (firsts l)) (sym is) in
              rw (firsts-first l a (new l a is f), ← is)
              (linked-set 1 (firsts l) a (has-firsts a.number l ∙ new l a is f) skipped k largest (omega (arith, f.places))
              (omega (arith, own)));
        }

    -- of a packet in order
    pub noted-in-order : state.next ≤ number → (skipped' : List ℕ) → Filled state.next number (state.count + 1) skipped skipped'
        → NotedRecord i number largest numbers records skipped state (set numbers state.count number) (set records number (i + 1))
        skipped'
        (record { count = state.count + 1; next = number + 1 })
    noted-in-order ahead skipped' filled =
        record {
          follows = λ l a m is f.
              rw (← m, ← is)
              (kept-in-order l a numbers records skipped state f (new l a is f) (omega arith) (omega arith) (omega arith) (omega arith)
              skipped' (rw (← is) at filled));
          linked = λ l a m is f lar k.
              rw (firsts-first l a (new l a is f))
              (linked-in-order (firsts l) a (has-firsts a.number l ∙ new l a is f) skipped skipped' k _ (omega (arith, f.next))
              (rw (← is, f.next) at filled));
        }

module _ (d : Decoded) (layout : Layout) (i : ℕ) (h : HasRecord d layout i) (numbers records skipped : List ℕ) (state : State)
    (f : EngineTables (before d i) numbers records skipped state) (number : ℕ) (is : number ≡ (arrival_at d i).number) where
  -- record i + 1 can be noted
  pub noting : NextRecord numbers records skipped state i number
  noting =
      let n = h.file.numbers i h.inside in
      record {
        earlier = before d i;
        follows = f;
        many = before-length d layout i h;
        few = omega (arith, h.inside, h.file.few);
        low = omega (arith, n);
        high = omega (arith, n, h.file.sent_few);
      }

  module _ (largest : ℕ) (numbers' records' skipped' : List ℕ) (state' : State)
      (n : NotedRecord i number largest numbers records skipped state numbers' records' skipped' state') where
    -- the tables after it
    pub noted-follows : EngineTables (before d (i + 1)) numbers' records' skipped' state'
    noted-follows = rw (before_more d layout i h) (n.follows (before d i) (arrival_at d i) (before-length d layout i h) (sym is) f)

    -- and the links
    pub noted-linked : (has number (before d i) ≡ false → number < next_exp (firsts (before d i))
        → largest ≡ largest_n (firsts (before d i)) number)
        → LinkTable 1 (firsts (before d i)) skipped → LinkTable 1 (firsts (before d (i + 1))) skipped'
    noted-linked lar k =
        rw (before_more d layout i h) (n.linked (before d i) (arrival_at d i) (before-length d layout i h) (sym is) f lar k)

module _ (d : Decoded) (layout : Layout) (i : ℕ) (h : HasRecord d layout i) (seen : Seen) (state : State) (f : SeenAt (before d i) seen state)
    (number : ℕ) (is : number ≡ (arrival_at d i).number) where
  -- record i + 1 can be noted in the tables by packet number
  pub noting-seen : NextSeen seen.records seen.skipped state i number
  noting-seen =
      record { numbers = f.numbers; next = noting d layout i h f.numbers seen.records seen.skipped state f.follows number is }

  -- these tables after it
  pub seen-follows : (largest : ℕ) (seen' : Seen) (state' : State)
      → NotedSeen i number largest seen.records seen.skipped state seen'.records seen'.skipped state' → SeenAt (before d (i + 1)) seen' state'
  seen-follows largest seen' state' n =
      record {
        numbers = set f.numbers state.count number;
        follows =
            noted-follows d layout i h f.numbers seen.records seen.skipped state f.follows number is largest _ seen'.records seen'.skipped
            state' (n f.numbers);
      }
