-- Which arrivals the receiver finds in time. Whatever it has passed on, it has waited for every smaller number that has not arrived: a
-- number greater than that one arrived more than w before (`Patient`). This stays so as time passes, with an arrival, and when it
-- settles; and all packets that arrived more than w before were passed on. So a new number is overtaken exactly if one greater than it is
-- overdue (`overtaken-overdue`). If times do not go back, the discontinuity falls due first of all greater numbers, so one is overdue
-- exactly if the late time is over w (`late-overdue`); for a packet in order no number is greater (`none_above`).
-- Here w is the waiting time, t and u are times, s is a number, l arrivals, fs first arrivals, a the next one, ps packets. Assumes
-- nothing.
use mathlib.Core.Path.{◌≡◌, refl, sym, ap, subst, ◌∙◌}
use mathlib.Core.Bool.{Bool, true, false, cond, not, ◌&&◌, ◌||◌, true≢false}
use mathlib.Core.Option.{some}
use mathlib.Core.List.{List, [], ◌∷◌, ◌++◌, map, map-append}
use Prim.Native.Nat.{ℕ, zero, suc, ◌+◌, ◌-◌, ◌≤◌, ◌<◌}
use native.Mathlib.Omega.{arith}
use lib.Dec.{leb, ltb, eqb}
use borrow.Author.Tests.{le-leb, lt-leb, leb-true, leb-false, ltb-true, ltb-false, lt-ltb, le-ltb}
use Rattle.rfc4737.specs.declared.Arrival.{Arrival}
use Rattle.rfc4737.specs.declared.Measure.{Measure}
use Rattle.rfc4737.specs.Arrivals.{has, firsts, each, each_after}
use Rattle.rfc4737.specs.Times.{elapsed}
use Rattle.rfc4737.specs.Order.{next_exp, place_after, placed}
use Rattle.rfc4737.specs.Extent.{first_above, discontinuity, late_from}
use Rattle.rfc4737.specs.Answer.{in_order_answer, reordered_answer, first_answer, answer_to, answers}
use Rattle.rfc4737.specs.Needs.{waiting_time, accommodates}
use Rattle.rfc4737.proofs.Tests.{either, both, on-left, on-right, join, same, neither}
use Rattle.rfc4737.proofs.Lists.{snoc-ind, All, Ordered, all-weaken, all_append, all_left, all_right, all-every, ordered-left, ordered-across, each_more}
use Rattle.rfc4737.proofs.Arrivals.{fold_more, has_more, has-firsts}
use Rattle.rfc4737.proofs.Folds.{answers-more, answer-duplicate, answer-first, first-in-order, first-reordered}
use Rattle.rfc4737.proofs.Packets.{all_firsts, ordered-firsts}
use Rattle.rfc4737.proofs.Offsets.{below_next}
use Rattle.buffering.specs.Restoring.{Packet, arrivals_of, overtaken, pass_on, settled_to, settle, overdue, until, receive, received, in_time}

-- ---- overdue packets

-- one arrival is stamped no later than another
abbrev pub NotBack : Arrival → Arrival → Type 0
NotBack a b = a.time ≤ b.time

module _ (w : ℕ) where
  -- at a later time
  overdue-later : (t u s : ℕ) → t ≤ u → (l : List Arrival) → overdue w t s l ≡ true → overdue w u s l ≡ true
  unfolding overdue
  overdue-later t u s h [] e = e
  overdue-later t u s h (b ∷ l) e =
      either (ltb s b.number && ltb (b.time + w) t) (overdue w t s l) e
      (λ q. let k = both (ltb s b.number) (ltb (b.time + w) t) q in
      let n = ltb-true (b.time + w) t k.1 in
      on-left (ltb s b.number && ltb (b.time + w) u) (overdue w u s l)
      (join (ltb s b.number) (ltb (b.time + w) u) k.0 (lt-ltb (b.time + w) u (omega (arith, n, h)))))
      (λ q. on-right (ltb s b.number && ltb (b.time + w) u) (overdue w u s l) (overdue-later t u s h l q))

  -- for a smaller number
  overdue-less : (t s r : ℕ) → s ≤ r → (l : List Arrival) → overdue w t r l ≡ true → overdue w t s l ≡ true
  unfolding overdue
  overdue-less t s r h [] e = e
  overdue-less t s r h (b ∷ l) e =
      either (ltb r b.number && ltb (b.time + w) t) (overdue w t r l) e
      (λ q. let k = both (ltb r b.number) (ltb (b.time + w) t) q in
      let n = ltb-true r b.number k.0 in
      on-left (ltb s b.number && ltb (b.time + w) t) (overdue w t s l)
      (join (ltb s b.number) (ltb (b.time + w) t) (lt-ltb s b.number (omega (arith, n, h))) k.1))
      (λ q. on-right (ltb s b.number && ltb (b.time + w) t) (overdue w t s l) (overdue-less t s r h l q))

  -- among more
  overdue-more : (t s : ℕ) (l m : List Arrival) → overdue w t s l ≡ true → overdue w t s (l ++ m) ≡ true
  unfolding overdue
  overdue-more t s [] m e = absurd (true≢false (sym e))
  overdue-more t s (b ∷ l) m e =
      either (ltb s b.number && ltb (b.time + w) t) (overdue w t s l) e
      (λ q. on-left (ltb s b.number && ltb (b.time + w) t) (overdue w t s (l ++ m)) q)
      (λ q. on-right (ltb s b.number && ltb (b.time + w) t) (overdue w t s (l ++ m)) (overdue-more t s l m q))

  -- a packet is overdue for all smaller numbers
  abbrev Shows : ℕ → List Arrival → Arrival → Type 0
  Shows t l b = (s : ℕ) → s < b.number → ltb (b.time + w) t ≡ true → overdue w t s l ≡ true

  overdue-one : (t : ℕ) (l : List Arrival) → All (Shows t l) l
  unfolding overdue
  overdue-one t [] = tt
  overdue-one t (b ∷ l) = (
    (λ s h e. on-left (ltb s b.number && ltb (b.time + w) t) (overdue w t s l)
        (join (ltb s b.number) (ltb (b.time + w) t) (lt-ltb s b.number h) e)),
    all-weaken {P = Shows t l} {Q = Shows t (b ∷ l)} (λ c k s h e. on-right (ltb s b.number && ltb (b.time + w) t) (overdue w t s l)
        (k s h e)) l (overdue-one t l),
  )

  -- ---- the receiver's invariant

  -- if a packet was passed on, each smaller number that has not arrived was waited for
  abbrev Waited : ℕ → List Arrival → Packet → Type 0
  Waited t fs p = p.passed ≡ true → (s : ℕ) → 1 ≤ s → s < p.arrival.number → has s fs ≡ false → overdue w t s fs ≡ true

  abbrev Patient : ℕ → List Arrival → List Packet → Type 0
  Patient t fs ps = All (Waited t fs) ps

  -- so a number that was overtaken was waited for
  overtaken-waited : (t : ℕ) (fs : List Arrival) (ps : List Packet) (s : ℕ) → Patient t fs ps → 1 ≤ s → has s fs ≡ false
      → overtaken s ps ≡ true → overdue w t s fs ≡ true
  unfolding overtaken
  overtaken-waited t fs [] s h g n e = absurd (true≢false (sym e))
  overtaken-waited t fs (p ∷ ps) s h g n e =
      either (p.passed && ltb s p.arrival.number) (overtaken s ps) e
      (λ q. let k = both p.passed (ltb s p.arrival.number) q in h.0 k.0 s g (ltb-true s p.arrival.number k.1) n)
      (λ q. overtaken-waited t fs ps s h.1 g n q)

  -- the packets that become ready
  patient-pass : (t : ℕ) (fs : List Arrival) (ready : Arrival → Bool) (ps : List Packet) → Patient t fs ps
      → All (λ (p : Packet). Waited t fs (record { arrival = p.arrival; passed = ready p.arrival })) ps
      → Patient t fs (pass_on ready ps)
  unfolding pass_on
  patient-pass t fs ready [] h g = tt
  patient-pass t fs ready (p ∷ ps) h g = (
    (λ e s. either p.passed (ready p.arrival) e (λ q. h.0 q s) (λ q. g.0 q s)),
    patient-pass t fs ready ps h.1 g.1,
  )

  -- ---- lists of packets

  all-arrivals : (P : Arrival → Type 0) (ps : List Packet) → All P (arrivals_of ps) → All (λ (p : Packet). P p.arrival) ps
  all-arrivals P [] h = tt
  all-arrivals P (p ∷ ps) h = (h.0, all-arrivals P ps h.1)

  -- passing on changes no arrival
  pub arrivals-pass : (ready : Arrival → Bool) (ps : List Packet) → arrivals_of (pass_on ready ps) ≡ arrivals_of ps
  unfolding pass_on
  arrivals-pass ready [] = refl
  arrivals-pass ready (p ∷ ps) = ap (λ (l : List Arrival). p.arrival ∷ l) (arrivals-pass ready ps)

  -- and takes no packet back
  overtaken-pass : (ready : Arrival → Bool) (s : ℕ) (ps : List Packet) → overtaken s ps ≡ true → overtaken s (pass_on ready ps) ≡ true
  unfolding pass_on overtaken
  overtaken-pass ready s [] e = e
  overtaken-pass ready s (p ∷ ps) e =
      either (p.passed && ltb s p.arrival.number) (overtaken s ps) e
      (λ q. let k = both p.passed (ltb s p.arrival.number) q in
      on-left ((p.passed || ready p.arrival) && ltb s p.arrival.number) (overtaken s (pass_on ready ps))
      (join (p.passed || ready p.arrival) (ltb s p.arrival.number) (on-left p.passed (ready p.arrival) k.0) k.1))
      (λ q. on-right ((p.passed || ready p.arrival) && ltb s p.arrival.number) (overtaken s (pass_on ready ps))
      (overtaken-pass ready s ps q))

  -- if all packets that waited are passed on, what is overdue overtakes
  overdue-passed : (ready : Arrival → Bool) (t s : ℕ) → ((a : Arrival) → ltb (a.time + w) t ≡ true → ready a ≡ true)
      → (ps : List Packet) → overdue w t s (arrivals_of ps) ≡ true → overtaken s (pass_on ready ps) ≡ true
  unfolding pass_on overtaken overdue
  overdue-passed ready t s f [] e = e
  overdue-passed ready t s f (p ∷ ps) e =
      either (ltb s p.arrival.number && ltb (p.arrival.time + w) t) (overdue w t s (arrivals_of ps)) e
      (λ q. let k = both (ltb s p.arrival.number) (ltb (p.arrival.time + w) t) q in
      on-left ((p.passed || ready p.arrival) && ltb s p.arrival.number) (overtaken s (pass_on ready ps))
      (join (p.passed || ready p.arrival) (ltb s p.arrival.number)
      (on-right p.passed (ready p.arrival) (f p.arrival k.1)) k.0))
      (λ q. on-right ((p.passed || ready p.arrival) && ltb s p.arrival.number) (overtaken s (pass_on ready ps))
      (overdue-passed ready t s f ps q))

  -- each of the numbers 1 to n
  pub settled_at : (ps : List Packet) (n s : ℕ) → settled_to ps n ≡ true → 1 ≤ s → s ≤ n → (has s (arrivals_of ps) || overtaken s ps) ≡ true
  unfolding settled_to
  settled_at ps zero s e g l = absurd (omega arith)
  settled_at ps (suc n) s e g l =
      let k = both (settled_to ps n) (has (suc n) (arrivals_of ps) || overtaken (suc n) ps) e in
      go (λ h. settled_at ps n s k.0 g h) k.1 (leb s n) refl
    where
      go : (s ≤ n → (has s (arrivals_of ps) || overtaken s ps) ≡ true) → (has (suc n) (arrivals_of ps) || overtaken (suc n) ps) ≡ true
          → (b : Bool) → leb s n ≡ b → (has s (arrivals_of ps) || overtaken s ps) ≡ true
      go below last true q = below (leb-true s n q)
      go below last false q =
          let m = leb-false s n q in
          let i : suc n ≡ s = omega (arith, m, l) in
          subst (λ (r : ℕ). (has r (arrivals_of ps) || overtaken r ps) ≡ true) i last

  -- ---- the invariant after each step

  record Keeps (t : ℕ) (fs : List Arrival) (ps : List Packet) : Type 0 where
    arrivals : arrivals_of ps ≡ fs
    patient : Patient t fs ps

  keeps-settle : (t : ℕ) (fs : List Arrival) (ps : List Packet) → Keeps t fs ps → Keeps t fs (settle ps)
  unfolding settle
  keeps-settle t fs ps h =
      record {
        arrivals = arrivals-pass ready ps ∙ h.arrivals;
        patient =
            patient-pass t fs ready ps h.patient (all-every
            (λ (p : Packet). Waited t fs (record { arrival = p.arrival; passed = ready p.arrival })) one ps);
      }
    where
      ready : Arrival → Bool
      ready a = settled_to ps (a.number - 1)

      one : (p : Packet) → Waited t fs (record { arrival = p.arrival; passed = ready p.arrival })
      one p e s g l n =
          either (has s (arrivals_of ps)) (overtaken s ps) (settled_at ps (p.arrival.number - 1) s e g (omega arith))
          (λ q. absurd (true≢false (sym q ∙ ap (has s) h.arrivals ∙ n)))
          (λ q. overtaken-waited t fs ps s h.patient g n q)

  keeps-later : (t u : ℕ) (fs : List Arrival) (ps : List Packet) → u ≤ t → Keeps u fs ps → Keeps t fs ps
  keeps-later t u fs ps h k =
      record {
        arrivals = k.arrivals;
        patient = all-weaken {P = Waited u fs} {Q = Waited t fs} (λ p q e s g l n. overdue-later u t s h fs (q e s g l n)) ps k.patient;
      }

  -- the packets passed on by the time t
  abbrev pub due : ℕ → List Packet → Arrival → Bool
  due t ps a = ltb (a.time + w) t || overdue w t a.number (arrivals_of ps)

  patient-due : (t : ℕ) (ps : List Packet) → Patient t (arrivals_of ps) ps → Patient t (arrivals_of ps) (pass_on (due t ps) ps)
  patient-due t ps h =
      patient-pass t (arrivals_of ps) (due t ps) ps h
      (all-weaken {P = λ (p : Packet). Shows t (arrivals_of ps) p.arrival}
      {Q = λ (p : Packet). Waited t (arrivals_of ps) (record { arrival = p.arrival; passed = due t ps p.arrival })}
      (λ p k e s g l n.
      either (ltb (p.arrival.time + w) t) (overdue w t p.arrival.number (arrivals_of ps)) e
      (λ q. k s l q)
      (λ q. overdue-less t s p.arrival.number (omega (arith, l)) (arrivals_of ps) q))
      ps (all-arrivals (Shows t (arrivals_of ps)) ps (overdue-one t (arrivals_of ps))))

  keeps-until : (t : ℕ) (fs : List Arrival) (ps : List Packet) → Keeps t fs ps → Keeps t fs (until w t ps)
  unfolding until
  keeps-until t fs ps h =
      keeps-settle t fs (pass_on (due t ps) ps)
      (record {
        arrivals = arrivals-pass (due t ps) ps ∙ h.arrivals;
        patient =
            subst (λ (l : List Arrival). Patient t l (pass_on (due t ps) ps)) h.arrivals
            (patient-due t ps (subst (λ (l : List Arrival). Patient t l ps) (sym h.arrivals) h.patient));
      })

  keeps-one : (t : ℕ) (fs : List Arrival) (ps : List Packet) (a : Arrival) → Keeps t fs ps
      → Keeps t (fs ++ (a ∷ [])) (ps ++ (record { arrival = a; passed = false } ∷ []))
  keeps-one t fs ps a h =
      record {
        arrivals = map-append (λ (p : Packet). p.arrival) ps (new ∷ []) ∙ ap (λ (l : List Arrival). l ++ (a ∷ [])) h.arrivals;
        patient =
            all_append (Waited t (fs ++ (a ∷ []))) ps (new ∷ [])
            (all-weaken {P = Waited t fs} {Q = Waited t (fs ++ (a ∷ []))}
            (λ p k e s g l n. overdue-more t s fs (a ∷ []) (k e s g l
            (neither (has s fs) (eqb a.number s) (sym (has_more s fs a) ∙ n)).0)) ps h.patient)
            ((λ e. absurd (true≢false (sym e))), tt);
      }
    where
      new : Packet
      new = record { arrival = a; passed = false }

  keeps-receive : (fs : List Arrival) (ps : List Packet) (a : Arrival) → Keeps a.time fs ps
      → Keeps a.time (fs ++ (a ∷ [])) (receive w ps a)
  unfolding receive
  keeps-receive fs ps a h = keeps-settle a.time _ _ (keeps-one a.time fs _ a (keeps-until a.time fs ps h))

  -- ---- after first arrivals whose times do not go back

  pub received_more : (fs : List Arrival) (a : Arrival) → received w (fs ++ (a ∷ [])) ≡ receive w (received w fs) a
  unfolding received
  received_more fs a = fold_more (receive w) [] fs a

  abbrev By : ℕ → Arrival → Type 0
  By t a = a.time ≤ t

  before_last : (fs : List Arrival) (a : Arrival) → Ordered NotBack (fs ++ (a ∷ [])) → All (By a.time) fs
  before_last fs a h =
      all-weaken {P = λ (b : Arrival). All (NotBack b) (a ∷ [])} {Q = By a.time} (λ b k. k.0) fs (ordered-across NotBack fs (a ∷ []) h)

  keeps-received : (fs : List Arrival) → Ordered NotBack fs → (t : ℕ) → All (By t) fs → Keeps t fs (received w fs)
  unfolding received
  keeps-received =
      snoc-ind (λ (fs : List Arrival). Ordered NotBack fs → (t : ℕ) → All (By t) fs → Keeps t fs (received w fs)) more
      (λ o t h. record { arrivals = refl; patient = tt })
    where
      more : (fs : List Arrival) (a : Arrival) → (Ordered NotBack fs → (t : ℕ) → All (By t) fs → Keeps t fs (received w fs))
          → Ordered NotBack (fs ++ (a ∷ [])) → (t : ℕ) → All (By t) (fs ++ (a ∷ []))
          → Keeps t (fs ++ (a ∷ [])) (received w (fs ++ (a ∷ [])))
      more fs a k o t h =
          rw (received_more fs a)
          (keeps-later t a.time (fs ++ (a ∷ [])) (receive w (received w fs) a) (all_right (By t) fs (a ∷ []) h).0
          (keeps-receive fs (received w fs) a (k (ordered-left NotBack fs (a ∷ []) o) a.time (before_last fs a o))))

  -- a new number is overtaken exactly if one greater than it is overdue
  overtaken-overdue : (fs : List Arrival) (t s : ℕ) → Ordered NotBack fs → All (By t) fs → 1 ≤ s → has s fs ≡ false
      → overtaken s (until w t (received w fs)) ≡ overdue w t s fs
  unfolding until settle
  overtaken-overdue fs t s o h g n =
      same (overtaken s (until w t ps)) (overdue w t s fs)
      (λ e. overtaken-waited t fs (until w t ps) s (keeps-until t fs ps k).patient g n e)
      (λ e. overtaken-pass (λ (a : Arrival). settled_to (pass_on (due t ps) ps) (a.number - 1)) s (pass_on (due t ps) ps)
      (overdue-passed (due t ps) t s (λ a q. on-left (ltb (a.time + w) t) (overdue w t a.number (arrivals_of ps)) q) ps
      (ap (overdue w t s) k.arrivals ∙ e)))
    where
      ps : List Packet
      ps = received w fs

      k : Keeps t fs ps
      k = keeps-received fs o t h

  -- ---- the figures

  -- no packet is overdue if all greater numbers came at most w before
  none-overdue : (t s : ℕ) (l : List Arrival) → All (λ (b : Arrival). s < b.number → t ≤ b.time + w) l → overdue w t s l ≡ false
  unfolding overdue
  none-overdue t s [] h = refl
  none-overdue t s (b ∷ l) h = rw (go (ltb s b.number) refl) (none-overdue t s l h.1)
    where
      go : (c : Bool) → ltb s b.number ≡ c → (c && ltb (b.time + w) t) ≡ false
      go true q = le-ltb (b.time + w) t (h.0 (ltb-true s b.number q))
      go false q = refl

  -- the discontinuity is the first to fall due
  late-after : (t s : ℕ) (before l : List Arrival) → Ordered NotBack l → All (By t) l
      → leb (waiting_time (late_from t (first_above s (each_after place_after before l)))) w ≡ not (overdue w t s l)
  unfolding overdue first_above each_after late_from elapsed
  late-after t s before [] o h = le-leb 0 w (omega arith)
  late-after t s before (b ∷ l) o h = go (late-after t s (before ++ (b ∷ [])) l o.1 h.1) (ltb s b.number)
    where
      late : (c : Bool) → ltb (b.time + w) t ≡ c → leb (t - b.time) w ≡ not (c || overdue w t s l)
      late true q = let n = ltb-true (b.time + w) t q in lt-leb (t - b.time) w (omega (arith, n))
      late false q =
          let n = ltb-false (b.time + w) t q in
          let z : overdue w t s l ≡ false =
          none-overdue t s l (all-weaken {P = NotBack b} {Q = λ (c : Arrival). s < c.number → t ≤ c.time + w}
          (λ c k g. omega (arith, k, n)) l o.0) in
          rw z (le-leb (t - b.time) w (omega (arith, n)))

      go : leb (waiting_time (late_from t (first_above s (each_after place_after (before ++ (b ∷ [])) l)))) w ≡ not (overdue w t s l)
          → (c : Bool)
          → leb (waiting_time (late_from t (cond c (some (place_after before b))
          (first_above s (each_after place_after (before ++ (b ∷ [])) l))))) w
          ≡ not ((c && ltb (b.time + w) t) || overdue w t s l)
      go k true = rw (le-ltb t b.time h.0) (late (ltb (b.time + w) t) refl)
      go k false = k

  late-overdue : (t s : ℕ) (fs : List Arrival) → Ordered NotBack fs → All (By t) fs
      → leb (waiting_time (late_from t (discontinuity fs s))) w ≡ not (overdue w t s fs)
  unfolding discontinuity placed each
  late-overdue t s fs o h = late-after t s [] fs o h

  none_above : (t s : ℕ) (fs : List Arrival) → next_exp fs ≤ s → overdue w t s fs ≡ false
  none_above t s fs h =
      none-overdue t s fs (all-weaken {P = λ (b : Arrival). b.number < next_exp fs} {Q = λ (b : Arrival). s < b.number → t ≤ b.time + w}
      (λ b q g. absurd (omega (arith, q, g, h))) fs (below_next fs))

  -- a first arrival is accommodated exactly if no greater number is overdue
  first-accommodated : (size : ℕ → ℕ) (fs : List Arrival) (a : Arrival) → Ordered NotBack fs → All (By a.time) fs
      → accommodates Measure.Time w (first_answer size fs a) ≡ not (overdue w a.time a.number fs)
  unfolding in_order_answer reordered_answer
  first-accommodated size fs a o h = go (leb (next_exp fs) a.number) refl
    where
      go : (b : Bool) → leb (next_exp fs) a.number ≡ b → accommodates Measure.Time w (first_answer size fs a)
          ≡ not (overdue w a.time a.number fs)
      go true q =
          let n = leb-true (next_exp fs) a.number q in
          rw (first-in-order size fs a n, none_above a.time a.number fs n) (le-leb 0 w (omega arith))
      go false q = rw (first-reordered size fs a (leb-false (next_exp fs) a.number q)) (late-overdue a.time a.number fs o h)

  -- ---- all arrivals

  pub one-in-time : (size : ℕ → ℕ) (l : List Arrival) (a : Arrival) → Ordered NotBack (l ++ (a ∷ [])) → 1 ≤ a.number
      → in_time w l a ≡ accommodates Measure.Time w (answer_to size l a)
  unfolding in_time
  one-in-time size l a o g = go (has a.number l) refl
    where
      of : Ordered NotBack (firsts l)
      of = ordered-firsts NotBack l (ordered-left NotBack l (a ∷ []) o)

      by : All (By a.time) (firsts l)
      by = all_firsts (By a.time) l (before_last l a o)

      go : (b : Bool) → has a.number l ≡ b → in_time w l a ≡ accommodates Measure.Time w (answer_to size l a)
      go true q = rw (answer-duplicate size l a q, q) refl
      go false q =
          rw (answer-first size l a q, q, overtaken-overdue (firsts l) a.time a.number of by g (has-firsts a.number l ∙ q))
          (sym (first-accommodated size (firsts l) a of by))

  -- record by record
  pub all-in-time : (size : ℕ → ℕ) (l : List Arrival) → Ordered NotBack l → All (λ (a : Arrival). 1 ≤ a.number) l
      → each (in_time w) l ≡ map (accommodates Measure.Time w) (answers size l)
  unfolding each each_after answers
  all-in-time size =
      snoc-ind (λ (l : List Arrival). Ordered NotBack l → All (λ (a : Arrival). 1 ≤ a.number) l
      → each (in_time w) l ≡ map (accommodates Measure.Time w) (answers size l)) more (λ o n. refl)
    where
      more : (l : List Arrival) (a : Arrival)
          → (Ordered NotBack l → All (λ (a : Arrival). 1 ≤ a.number) l
          → each (in_time w) l ≡ map (accommodates Measure.Time w) (answers size l))
          → Ordered NotBack (l ++ (a ∷ [])) → All (λ (a : Arrival). 1 ≤ a.number) (l ++ (a ∷ []))
          → each (in_time w) (l ++ (a ∷ [])) ≡ map (accommodates Measure.Time w) (answers size (l ++ (a ∷ [])))
      more l a k o n =
          rw (
            each_more (in_time w) l a,
            answers-more size l a,
            map-append (accommodates Measure.Time w) (answers size l) (answer_to size l a ∷ []),
            k (ordered-left NotBack l (a ∷ []) o) (all_left _ l (a ∷ []) n),
            one-in-time size l a o (all_right (λ (a : Arrival). 1 ≤ a.number) l (a ∷ []) n).0,
          )
          refl
