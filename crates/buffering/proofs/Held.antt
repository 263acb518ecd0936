-- What the receiver holds. It passes a packet on as soon as all smaller numbers have arrived (`Prompt`), so it holds only packets with a
-- number greater than the least missing one (`Missing`), and no more than the byte offset of that one (`held-offset`). If that one comes
-- later, it needs at least what is held now (`comes`), so the receiver never holds more than the greatest need (`never-more`). A number
-- that is not overtaken finds all greater ones held, so at least its byte offset (`offset-held`).
-- Here w is the waiting time, t a time, s a number, fs first arrivals, ps packets, z the size of each packet, m the measure. Assumes
-- nothing.
use mathlib.Core.Path.{◌≡◌, refl, sym, ap, subst, ◌∙◌}
use mathlib.Core.Bool.{Bool, true, false, cond, not, ◌&&◌, ◌||◌, true≢false}
use mathlib.Core.List.{List, [], ◌∷◌, ◌++◌, append-nil, append_assoc, map-append}
use Prim.Native.Nat.{ℕ, zero, suc, ◌+◌, ◌-◌, ◌≤◌, ◌<◌}
use native.Mathlib.Omega.{arith}
use lib.Dec.{leb, ltb, eqb}
use borrow.Author.Tests.{leb-true, leb-false, ltb-true, ltb-false, lt-ltb, eqb-true, not-true}
use Rattle.rfc4737.specs.declared.Arrival.{Arrival}
use Rattle.rfc4737.specs.declared.Answer.{Answer}
use Rattle.rfc4737.specs.declared.Measure.{Measure}
use Rattle.rfc4737.specs.Arrivals.{has, firsts}
use Rattle.rfc4737.specs.Order.{next_exp}
use Rattle.rfc4737.specs.Extent.{byte_offset}
use Rattle.rfc4737.specs.Answer.{in_order_answer, reordered_answer, first_answer, answer_to, answers}
use Rattle.rfc4737.specs.Needs.{needed_for, greatest_need}
use Rattle.rfc4737.proofs.Tests.{both, on-left, on-right, join}
use Rattle.rfc4737.proofs.Lists.{snoc-ind, All, all-weaken}
use Rattle.rfc4737.proofs.Arrivals.{has_more, has-firsts, firsts_more}
use Rattle.rfc4737.proofs.Folds.{offset-more, answers-more, answer-first, first-in-order, first-reordered}
use Rattle.rfc4737.proofs.Packets.{with_cases, all_firsts}
use Rattle.rfc4737.proofs.Offsets.{offset-front, offset-none, offset-in-order, extent-counts}
use Rattle.rfc4737.proofs.Needs.{need-least}
use Rattle.buffering.specs.Restoring.{Packet, arrivals_of, overtaken, pass_on, settled_to, settle, until, receive, received, in_time, held, HoldsOffset}
use Rattle.buffering.proofs.InTime.{due, arrivals-pass, received_more}

-- ---- what is held

-- if all packets with a number above s are held
held-above : (size : ℕ → ℕ) (s : ℕ) (ps : List Packet) → All (λ (p : Packet). s < p.arrival.number → p.passed ≡ false) ps
    → byte_offset size (arrivals_of ps) s ≤ held size ps
unfolding held byte_offset
held-above size s [] h = omega arith
held-above size s (p ∷ ps) h =
    rw (offset-front size s p.arrival (arrivals_of ps)) (go (held-above size s ps h.1) (ltb s p.arrival.number) refl)
  where
    go : byte_offset size (arrivals_of ps) s ≤ held size ps → (b : Bool) → ltb s p.arrival.number ≡ b
        → cond b (size p.arrival.number) 0 + byte_offset size (arrivals_of ps) s ≤ cond p.passed 0 (size p.arrival.number)
        + held size ps
    go k true q = rw (h.0 (ltb-true s p.arrival.number q)) (omega (arith, k))
    go k false q = omega (arith, k)

-- if only those are held
held-only : (size : ℕ → ℕ) (s : ℕ) (ps : List Packet) → All (λ (p : Packet). p.arrival.number ≤ s → p.passed ≡ true) ps
    → held size ps ≤ byte_offset size (arrivals_of ps) s
unfolding held byte_offset
held-only size s [] h = omega arith
held-only size s (p ∷ ps) h =
    rw (offset-front size s p.arrival (arrivals_of ps)) (go (held-only size s ps h.1) (ltb s p.arrival.number) refl p.passed
    refl)
  where
    go : held size ps ≤ byte_offset size (arrivals_of ps) s → (b : Bool) → ltb s p.arrival.number ≡ b → (c : Bool) → p.passed ≡ c
        → cond c 0 (size p.arrival.number) + held size ps ≤ cond b (size p.arrival.number) 0 + byte_offset size (arrivals_of ps) s
    go k true q c e = few c
      where
        few : (c : Bool) → cond c 0 (size p.arrival.number) + held size ps ≤ size p.arrival.number
            + byte_offset size (arrivals_of ps) s
        few true = omega (arith, k)
        few false = omega (arith, k)
    go k false q true e = omega (arith, k)
    go k false q false e = absurd (true≢false (sym (h.0 (ltb-false s p.arrival.number q)) ∙ e))

-- ---- a receiver that never gives up

settled-all : (ps : List Packet) (n : ℕ) → ((s : ℕ) → 1 ≤ s → s ≤ n → has s (arrivals_of ps) ≡ true) → settled_to ps n ≡ true
unfolding settled_to
settled-all ps zero h = refl
settled-all ps (suc n) h =
    join (settled_to ps n) (has (suc n) (arrivals_of ps) || overtaken (suc n) ps) (settled-all ps n (λ s g l. h s g (omega (arith, l))))
    (on-left (has (suc n) (arrivals_of ps)) (overtaken (suc n) ps) (h (suc n) (omega arith) (omega arith)))

-- a packet was passed on if all smaller numbers have arrived
abbrev Prompt : List Arrival → Packet → Type 0
Prompt fs p = ((s : ℕ) → 1 ≤ s → s < p.arrival.number → has s fs ≡ true) → p.passed ≡ true

prompt-pass : (ps qs : List Packet) → All (Prompt (arrivals_of ps)) (pass_on (λ (a : Arrival). settled_to ps (a.number - 1)) qs)
unfolding pass_on
prompt-pass ps [] = tt
prompt-pass ps (q ∷ qs) = (
  (λ h. on-right q.passed (settled_to ps (q.arrival.number - 1))
      (settled-all ps (q.arrival.number - 1) (λ s g l. h s g (omega (arith, g, l))))),
  prompt-pass ps qs,
)

module _ (w : ℕ) where
  prompt-settle : (fs : List Arrival) (ps : List Packet) → arrivals_of ps ≡ fs → All (Prompt fs) (settle ps)
  unfolding settle
  prompt-settle fs ps e =
      subst (λ (l : List Arrival). All (Prompt l) (pass_on (λ (a : Arrival). settled_to ps (a.number - 1)) ps)) e (prompt-pass ps ps)

  -- no step changes an arrival
  arrivals-settle : (ps : List Packet) → arrivals_of (settle ps) ≡ arrivals_of ps
  unfolding settle
  arrivals-settle ps = arrivals-pass w (λ (a : Arrival). settled_to ps (a.number - 1)) ps

  arrivals-until : (t : ℕ) (ps : List Packet) → arrivals_of (until w t ps) ≡ arrivals_of ps
  unfolding until
  arrivals-until t ps = arrivals-settle (pass_on (due w t ps) ps) ∙ arrivals-pass w (due w t ps) ps

  arrivals-one : (ps : List Packet) (a : Arrival)
      → arrivals_of (until w a.time ps ++ (record { arrival = a; passed = false } ∷ [])) ≡ arrivals_of ps ++ (a ∷ [])
  arrivals-one ps a =
      map-append (λ (p : Packet). p.arrival) (until w a.time ps) (record { arrival = a; passed = false } ∷ [])
      ∙ ap (λ (l : List Arrival). l ++ (a ∷ [])) (arrivals-until a.time ps)

  record Kept (fs : List Arrival) : Type 0 where
    arrivals : arrivals_of (received w fs) ≡ fs
    prompt : All (Prompt fs) (received w fs)

  kept : (fs : List Arrival) → Kept fs
  unfolding received receive
  kept = snoc-ind Kept more (record { arrivals = refl; prompt = tt })
    where
      more : (fs : List Arrival) (a : Arrival) → Kept fs → Kept (fs ++ (a ∷ []))
      more fs a k =
          let ps : List Packet = until w a.time (received w fs) ++ (record { arrival = a; passed = false } ∷ []) in
          let e : arrivals_of ps ≡ fs ++ (a ∷ []) =
          arrivals-one (received w fs) a ∙ ap (λ (l : List Arrival). l ++ (a ∷ [])) k.arrivals in
          record {
            arrivals = ap arrivals_of (received_more w fs a) ∙ arrivals-settle ps ∙ e;
            prompt = rw (received_more w fs a) (prompt-settle (fs ++ (a ∷ [])) ps e);
          }

  -- only those are held that have a number greater than one before which all have arrived
  held-offset : (fs : List Arrival) (size : ℕ → ℕ) (s : ℕ) → ((r : ℕ) → 1 ≤ r → r < s → has r fs ≡ true)
      → held size (received w fs) ≤ byte_offset size fs s
  held-offset fs size s f =
      subst (λ (l : List Arrival). held size (received w fs) ≤ byte_offset size l s) (kept fs).arrivals
      (held-only size s (received w fs)
      (all-weaken {P = Prompt fs} {Q = λ (p : Packet). p.arrival.number ≤ s → p.passed ≡ true}
      (λ p k l. k (λ r g i. f r g (omega (arith, i, l)))) (received w fs) (kept fs).prompt))

  -- all that have a greater number than one that is not overtaken are held
  above-held : (s : ℕ) (ps : List Packet) → overtaken s ps ≡ false → All (λ (p : Packet). s < p.arrival.number → p.passed ≡ false) ps
  unfolding overtaken
  above-held s [] e = tt
  above-held s (p ∷ ps) e = (
    (λ l. go p.passed (ltb s p.arrival.number) (lt-ltb s p.arrival.number l) (overtaken s ps) e),
    above-held s ps (rest (p.passed && ltb s p.arrival.number) (overtaken s ps) e),
  )
    where
      rest : (a b : Bool) → (a || b) ≡ false → b ≡ false
      rest true b q = absurd (true≢false q)
      rest false b q = q

      go : (a b : Bool) → b ≡ true → (c : Bool) → ((a && b) || c) ≡ false → a ≡ false
      go true true q c r = absurd (true≢false r)
      go true false q c r = absurd (true≢false (sym q))
      go false b q c r = refl

  offset-held : (t : ℕ) (fs : List Arrival) (size : ℕ → ℕ) (s : ℕ) → overtaken s (until w t (received w fs)) ≡ false
      → byte_offset size fs s ≤ held size (until w t (received w fs))
  offset-held t fs size s e =
      subst (λ (l : List Arrival). byte_offset size l s ≤ held size (until w t (received w fs)))
      (arrivals-until t (received w fs) ∙ (kept fs).arrivals)
      (held-above size s (until w t (received w fs)) (above-held s (until w t (received w fs)) e))

  -- the sum held falls
  held-pass : (size : ℕ → ℕ) (ready : Arrival → Bool) (ps : List Packet) → held size (pass_on ready ps) ≤ held size ps
  unfolding held pass_on
  held-pass size ready [] = omega arith
  held-pass size ready (p ∷ ps) = go (held-pass size ready ps) p.passed (ready p.arrival)
    where
      go : held size (pass_on ready ps) ≤ held size ps → (a b : Bool)
          → cond (a || b) 0 (size p.arrival.number) + held size (pass_on ready ps) ≤ cond a 0 (size p.arrival.number) + held size ps
      go k true b = omega (arith, k)
      go k false true = omega (arith, k)
      go k false false = omega (arith, k)

  held-until : (t : ℕ) (size : ℕ → ℕ) (ps : List Packet) → held size (until w t ps) ≤ held size ps
  unfolding until settle
  held-until t size ps =
      omega (
        arith,
        held-pass size (λ (a : Arrival). settled_to (pass_on (due w t ps) ps) (a.number - 1)) (pass_on (due w t ps) ps),
        held-pass size (due w t ps) ps,
      )

-- ---- the least number that has not arrived

record Missing (fs : List Arrival) (k : ℕ) : Type 0 where
  at : ℕ
  low : 1 ≤ at
  high : at ≤ k + 1
  new : at ≤ k → has at fs ≡ false
  all : (s : ℕ) → 1 ≤ s → s < at → has s fs ≡ true

missing : (fs : List Arrival) (k : ℕ) → Missing fs k
missing fs zero =
    record {
      at = 1;
      low = omega arith;
      high = omega arith;
      new = λ h. absurd (omega (arith, h));
      all = λ s g l. absurd (omega (arith, g, l));
    }
missing fs (suc k) = go (missing fs k)
  where
    last : (m : Missing fs k) → k < m.at → (b : Bool) → has (suc k) fs ≡ b → Missing fs (suc k)
    last m h true e =
        record {
          at = suc k + 1;
          low = omega arith;
          high = omega arith;
          new = λ g. absurd (omega (arith, g));
          all = λ s g l. below s g l (leb s k) refl;
        }
      where
        below : (s : ℕ) → 1 ≤ s → s < suc k + 1 → (c : Bool) → leb s k ≡ c → has s fs ≡ true
        below s g l true q = let n = leb-true s k q in m.all s g (omega (arith, n, h))
        below s g l false q =
            let n = leb-false s k q in
            let i : suc k ≡ s = omega (arith, n, l) in
            subst (λ (r : ℕ). has r fs ≡ true) i e
    last m h false e =
        let i : m.at ≡ suc k = omega (arith, h, m.high) in
        record { at = suc k; low = omega arith; high = omega arith; new = λ g. e; all = λ s g l. m.all s g (omega (arith, l, i)) }

    within : (m : Missing fs k) → m.at ≤ k → Missing fs (suc k)
    within m h = record { at = m.at; low = m.low; high = omega (arith, h); new = λ g. m.new h; all = m.all }

    pick : (m : Missing fs k) → (b : Bool) → leb m.at k ≡ b → Missing fs (suc k)
    pick m true q = within m (leb-true m.at k q)
    pick m false q = last m (leb-false m.at k q) (has (suc k) fs) refl

    go : Missing fs k → Missing fs (suc k)
    go m = pick m (leb m.at k) refl

-- ---- the need of that number when it arrives

module _ (m : Measure) (size : ℕ → ℕ) where
  greatest-grows : (after before : List Arrival) → greatest_need m (answers size before) ≤ greatest_need m (answers size (before ++ after))
  greatest-grows [] before = rw (append-nil before) (omega arith)
  greatest-grows (a ∷ after) before =
      let k = greatest-grows after (before ++ (a ∷ [])) in
      let e : (before ++ (a ∷ [])) ++ after ≡ before ++ (a ∷ after) = append_assoc before (a ∷ []) after in
      let h = subst (λ (l : List Arrival). greatest_need m (answers size (before ++ (a ∷ []))) ≤ greatest_need m (answers size l)) e k in
      let g =
      subst (λ (l : List Answer). greatest_need m (answers size before) ≤ greatest_need m l) (sym (answers-more size before a))
      (need-least m (answers size before) (answer_to size before a)).0 in
      omega (arith, g, h)

  -- if a packet needs at least the sum of z over the greater numbers before it, that sum is reached for a number that has not arrived
  module _ (z : ℕ → ℕ) (needs : (fs : List Arrival) (a : Arrival) → byte_offset z fs a.number ≤ needed_for m (first_answer size fs a)) where
    offset-grows : (l : List Arrival) (a : Arrival) (s : ℕ) → byte_offset z (firsts l) s ≤ byte_offset z (firsts (l ++ (a ∷ []))) s
    offset-grows l a s =
        rw (firsts_more l a)
        (with_cases (λ (fs : List Arrival). byte_offset z (firsts l) s ≤ byte_offset z fs s) (firsts l) a (omega arith)
        (λ n. rw (offset-more z (firsts l) s a) (omega arith)))

    comes : (after before : List Arrival) (s : ℕ) → has s before ≡ false → has s (before ++ after) ≡ true
        → byte_offset z (firsts before) s ≤ greatest_need m (answers size (before ++ after))
    comes [] before s n e = absurd (true≢false (sym e ∙ ap (has s) (append-nil before) ∙ n))
    comes (a ∷ after) before s n e =
        subst (λ (l : List Arrival). byte_offset z (firsts before) s ≤ greatest_need m (answers size l)) split
        (go (λ k. comes after (before ++ (a ∷ [])) s k (ap (has s) split ∙ e)) (eqb a.number s) refl)
      where
        split : (before ++ (a ∷ [])) ++ after ≡ before ++ (a ∷ after)
        split = append_assoc before (a ∷ []) after

        go : (has s (before ++ (a ∷ [])) ≡ false → byte_offset z (firsts (before ++ (a ∷ []))) s
            ≤ greatest_need m (answers size ((before ++ (a ∷ [])) ++ after)))
            → (b : Bool) → eqb a.number s ≡ b
            → byte_offset z (firsts before) s ≤ greatest_need m (answers size ((before ++ (a ∷ [])) ++ after))
        go k false q =
            let i = k (has_more s before a ∙ rw (n, q) refl) in
            omega (arith, i, offset-grows before a s)
        go k true q =
            let i : a.number ≡ s = eqb-true a.number s q in
            let v : answer_to size before a ≡ first_answer size (firsts before) a =
            answer-first size before a (ap (λ (r : ℕ). has r before) i ∙ n) in
            let x = needs (firsts before) a in
            let y : byte_offset z (firsts before) s ≤ needed_for m (answer_to size before a) = rw (v, ← i) x in
            let g =
            subst (λ (l : List Answer). needed_for m (answer_to size before a) ≤ greatest_need m l) (sym (answers-more size before a))
            (need-least m (answers size before) (answer_to size before a)).1 in
            omega (arith, y, g, greatest-grows after (before ++ (a ∷ [])))

-- ---- the need of a first arrival

module _ (size : ℕ → ℕ) (fs : List Arrival) (a : Arrival) where
  pub needs-octets : byte_offset size fs a.number ≤ needed_for Measure.Octets (first_answer size fs a)
  unfolding in_order_answer reordered_answer
  needs-octets = go (leb (next_exp fs) a.number) refl
    where
      go : (b : Bool) → leb (next_exp fs) a.number ≡ b → byte_offset size fs a.number ≤ needed_for Measure.Octets (first_answer size fs a)
      go true q =
          let n = leb-true (next_exp fs) a.number q in
          rw (first-in-order size fs a n, offset-in-order size a.number fs n) (omega arith)
      go false q = rw (first-reordered size fs a (leb-false (next_exp fs) a.number q)) (omega arith)

  pub needs-packets : byte_offset (λ _. 1) fs a.number ≤ needed_for Measure.Packets (first_answer size fs a)
  unfolding in_order_answer reordered_answer
  needs-packets = go (leb (next_exp fs) a.number) refl
    where
      go : (b : Bool) → leb (next_exp fs) a.number ≡ b → byte_offset (λ _. 1) fs a.number
          ≤ needed_for Measure.Packets (first_answer size fs a)
      go true q =
          let n = leb-true (next_exp fs) a.number q in
          rw (first-in-order size fs a n, offset-in-order (λ _. 1) a.number fs n) (omega arith)
      go false q = rw (first-reordered size fs a (leb-false (next_exp fs) a.number q)) (extent-counts a.number fs)

  -- a packet in order needs nothing, a reordered one its byte offset
  octets-needed : needed_for Measure.Octets (first_answer size fs a) ≤ byte_offset size fs a.number
  unfolding in_order_answer reordered_answer
  octets-needed = go (leb (next_exp fs) a.number) refl
    where
      go : (b : Bool) → leb (next_exp fs) a.number ≡ b → needed_for Measure.Octets (first_answer size fs a) ≤ byte_offset size fs a.number
      go true q = rw (first-in-order size fs a (leb-true (next_exp fs) a.number q)) (omega arith)
      go false q = rw (first-reordered size fs a (leb-false (next_exp fs) a.number q)) (omega arith)

-- ---- never more than is needed

pub never-more : (m : Measure) (size z : ℕ → ℕ) → ((fs : List Arrival) (a : Arrival)
    → byte_offset z fs a.number ≤ needed_for m (first_answer size fs a))
    → (w k : ℕ) (before after : List Arrival) → All (λ (a : Arrival). a.number ≤ k) before
    → ((s : ℕ) → 1 ≤ s → s ≤ k → has s (before ++ after) ≡ true)
    → held z (received w (firsts before)) ≤ greatest_need m (answers size (before ++ after))
never-more m size z needs w k before after h all = go (leb i.at k) refl
  where
    fs : List Arrival
    fs = firsts before

    i : Missing fs k
    i = missing fs k

    least : held z (received w fs) ≤ byte_offset z fs i.at
    least = held-offset w fs z i.at i.all

    go : (b : Bool) → leb i.at k ≡ b → held z (received w fs) ≤ greatest_need m (answers size (before ++ after))
    go true q =
        let l = leb-true i.at k q in
        omega (
          arith,
          least,
          comes m size z needs after before i.at (sym (has-firsts i.at before) ∙ i.new l)
              (all i.at i.low l),
        )
    go false q =
        let n = leb-false i.at k q in
        let e : byte_offset z fs i.at ≡ 0 =
        offset-none z i.at fs (all-weaken {P = λ (a : Arrival). a.number ≤ k} {Q = λ (a : Arrival). a.number ≤ i.at}
        (λ a g. omega (arith, g, n)) fs (all_firsts (λ (a : Arrival). a.number ≤ k) before h)) in
        omega (arith, least, e)

-- ---- the theorem

pub holds-offset : HoldsOffset
unfolding in_time
holds-offset =
    record {
      found =
          λ w size before a e. reached w size before a (both (not (has a.number before))
          (not (overtaken a.number (until w a.time (received w (firsts before))))) e);
      falls = held-until;
    }
  where
    reached : (w : ℕ) (size : ℕ → ℕ) (before : List Arrival) (a : Arrival)
        → (not (has a.number before) ≡ true) × (not (overtaken a.number (until w a.time (received w (firsts before)))) ≡ true)
        → needed_for Measure.Octets (answer_to size before a) ≤ held size (until w a.time (received w (firsts before)))
    reached w size before a e =
        rw (answer-first size before a (not-true (has a.number before) e.0))
        (omega (arith, octets-needed size (firsts before) a, offset-held w a.time (firsts before) size a.number (not-true _ e.1)))
