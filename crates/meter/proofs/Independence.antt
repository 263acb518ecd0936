-- Independence of the streams, by induction over the calls. Without the neighbour: the K and the accepted arrivals of a stream's part do
-- not depend on the free places (`same_after`), so they are those of its own calls alone (`same-alone`), and with them all that the meter
-- holds of the stream but the kept jumps (`known_alone`); a flag leaves out extent and late time, and so does not depend on the window
-- (`flag-window`). Through the free places: they count at a jump only (`free-counts`), so the part is a fold over the stream's trace, its
-- own calls with what it meets at each (`part-trace`), and so are the replies (`replies-trace`): where two lists of calls have the same
-- calls and meet the same, they have the same trace (`trace-path`), and the replies are the same. Here s is the stream, c the next call,
-- h and g are parts, f and e numbers of free places, ws and vs windows, and t is the outcome of a test or an element of a trace. Assumes
-- nothing.
use Prim.Native.Nat.{ℕ, suc, ◌-◌}
use mathlib.Core.Path.{◌≡◌, refl, sym, ap, ap₂, ◌∙◌}
use mathlib.Core.Bool.{Bool, true, false, cond}
use mathlib.Core.List.{List, [], ◌∷◌, ◌++◌, map, map-append, foldl, flatten, append-nil}
use mathlib.Core.Option.{Option, none, some}
use native.Mathlib.Omega.{arith}
use lib.Dec.{eqb}
use lib.ListN.{length, get_or, drop}
use Rattle.rfc4737.specs.declared.Arrival.{Arrival}
use Rattle.rfc4737.specs.declared.Answer.{Answer}
use Rattle.rfc4737.specs.declared.Answer.TheVariants as answer
use Rattle.rfc4737.specs.Arrivals.{firsts, each, each_after, count}
use Rattle.rfc4737.specs.Order.{FirstArrival, next_exp, jumps}
use Rattle.rfc4737.specs.Times.{greatest_time}
use Rattle.rfc4737.specs.Runs.{is_duplicate, is_in_order_answer, runs}
use Rattle.rfc4737.specs.Refusals.{outside}
use Rattle.rfc4737.specs.Judge.{sent_most}
use Rattle.rfc4737.proofs.Lists.{snoc-ind, each_more, flatten-more}
use Rattle.rfc4737.proofs.Arrivals.{fold_more}
use Rattle.receiver.specs.declared.Receiver.{Receiver}
use Rattle.receiver.specs.declared.ReceiverAnswer.TheVariants.{Exact, Beyond}
use Rattle.receiver.specs.declared.Outcome.{Outcome}
use Rattle.receiver.specs.Kept.{Held, kept_with}
use Rattle.receiver.specs.Outcomes.{refused_outcome, accepted_outcome}
use Rattle.receiver.specs.Account.{account_refusal, account_with, answer_in, answers_in, in_window, true_figures, beyond_figures, in_form, outcome_in}
use Rattle.receiver.proofs.Marks.{marks_of}
use Rattle.receiver.proofs.State.{state_with}
use Rattle.receiver.proofs.Agrees.{jump-cases}
use Rattle.meter.specs.Streams.{Side, one, two, side_of, takes_place, receiver_of}
use Rattle.meter.specs.Account.{Call, arrives, starts, stream_number_of, Reply, said, Part, fresh_part, part_after, reply_in, Account, free_in, account_after, meter_account_of, account_reply}
use Rattle.meter.specs.Demand3.{meter_after, meter_reply, kept_after, jumps_of}
use Rattle.meter.specs.Independence.{is_side, of_own, own_calls, own_replies, Flag, flag, flag_of, Alone, free_at, meets, Independence}
use Rattle.meter.proofs.CallsByStream.{account_for, reply_for}
use Rattle.meter.proofs.Carries.{held_by}
use Rattle.meter.proofs.Demand3.{calls-carry, reply-agrees, demand3}

-- whether a call is on a stream
abbrev is_on : Side → Call → Bool
is_on s c = is_side s (side_of (stream_number_of c))

-- the replies to own calls, after the next call
own-more {ℓ} : {B : Type ℓ} (s : Side) (f : List Call → Call → B) (calls : List Call) (c : Call)
    → of_own s f (calls ++ (c ∷ [])) ≡ of_own s f calls ++ cond (is_on s c) (f calls c ∷ []) []
unfolding of_own
own-more s f calls c =
    ap flatten (each_more (λ (earlier : List Call) (c : Call). cond (is_on s c) (f earlier c ∷ []) []) calls c)
    ∙ flatten-more (each (λ (earlier : List Call) (c : Call). cond (is_on s c) (f earlier c ∷ []) []) calls)
    (cond (is_on s c) (f calls c ∷ []) [])

-- a stream's part of the account, under one call more
part-more : (s : Side) (calls : List Call) (c : Call)
    → meter_account_of (calls ++ (c ∷ [])) s ≡ cond (is_on s c) (part_after (free_in (meter_account_of calls)) (meter_account_of calls s) c)
    (meter_account_of calls s)
unfolding meter_account_of account_after
part-more s calls c = ap (λ (account : Account). account s) (fold_more _ _ calls c) ∙ go s (side_of (stream_number_of c))
  where
    go : (s : Side) (o : Option Side) → account_for o (meter_account_of calls) c s
        ≡ cond (is_side s o) (part_after (free_in (meter_account_of calls)) (meter_account_of calls s) c) (meter_account_of calls s)
    go one none = refl
    go two none = refl
    go one (some one) = refl
    go one (some two) = refl
    go two (some one) = refl
    go two (some two) = refl

-- the reply to a call on a stream
reply-own : (s : Side) (calls : List Call) (c : Call) → is_on s c ≡ true → meter_reply calls c ≡ reply_in (meter_account_of calls s) c
unfolding account_reply
reply-own s calls c e = reply-agrees calls c ∙ go s (side_of (stream_number_of c)) e
  where
    go : (s : Side) (o : Option Side) → is_side s o ≡ true → reply_for o (meter_account_of calls) c ≡ reply_in (meter_account_of calls s) c
    go s none e = absurd (let z : ◌≡◌ {A = ℕ} 0 1 = cc in omega arith)
    go one (some one) e = refl
    go one (some two) e = absurd (let z : ◌≡◌ {A = ℕ} 0 1 = cc in omega arith)
    go two (some one) e = absurd (let z : ◌≡◌ {A = ℕ} 0 1 = cc in omega arith)
    go two (some two) e = refl

-- ---- without the neighbour

-- parts of the same K and arrivals
record SameArrivals (h g : Part) : Type 0 where
  sent : h.sent ≡ g.sent
  accepted : h.accepted ≡ g.accepted

same_after : (f e : ℕ) (h g : Part) (c : Call) → SameArrivals h g → SameArrivals (part_after f h c) (part_after e g c)
unfolding part_after
same_after f e h g (arrives n a) q =
    record { sent = q.sent; accepted = ap₂ (λ (k : ℕ) (l : List Arrival). account_with k l a) q.sent q.accepted }
same_after f e h g (starts n k) q = go (outside 1 sent_most k)
  where
    go : (t : Bool) → SameArrivals (cond t h (fresh_part k)) (cond t g (fresh_part k))
    go true = q
    go false = record { sent = refl; accepted = refl }

-- the flag of an arrival does not hang on the window
flag-window : (ws vs : List FirstArrival) (k : ℕ) (account : List Arrival) (a : Arrival)
    → flag_of (said (outcome_in ws k account a)) ≡ flag_of (said (outcome_in vs k account a))
unfolding outcome_in in_form
flag-window ws vs k account a = go (eqb (account_refusal k account a) 0)
  where
    form : (x : Answer) → flag 0 (in_form ws account a x) ≡ flag 0 (in_form vs account a x)
    form (answer.Duplicate d) = refl
    form (answer.InOrder d) = refl
    form (answer.Reordered d) = late (in_window ws account a.number) (in_window vs account a.number)
      where
        late : (t u : Bool) → flag 0 (cond t (Exact (true_figures d)) (Beyond (beyond_figures ws account a)))
            ≡ flag 0 (cond u (Exact (true_figures d)) (Beyond (beyond_figures vs account a)))
        late true true = refl
        late true false = refl
        late false true = refl
        late false false = refl

    go : (t : Bool)
        → flag_of (said (cond {A = Outcome} t (accepted_outcome (in_form ws account a (answer_in account a)))
        (refused_outcome (account_refusal k account a))))
        ≡ flag_of (said (cond {A = Outcome} t (accepted_outcome (in_form vs account a (answer_in account a)))
        (refused_outcome (account_refusal k account a))))
    go true = form (answer_in account a)
    go false = refl

flag_same : (h g : Part) (c : Call) → SameArrivals h g → flag_of (reply_in h c) ≡ flag_of (reply_in g c)
unfolding reply_in
flag_same h g (arrives n a) q =
    flag-window h.window g.window h.sent h.accepted a
    ∙ ap₂ (λ (k : ℕ) (l : List Arrival). flag_of (said (outcome_in g.window k l a))) q.sent q.accepted
flag_same h g (starts n k) q = refl

-- the account of a stream is that of its own calls
same-alone : (s : Side) (calls : List Call) → SameArrivals (meter_account_of calls s) (meter_account_of (own_calls s calls) s)
unfolding of_own each each_after flatten
same-alone s =
    snoc-ind (λ (calls : List Call). SameArrivals (meter_account_of calls s) (meter_account_of (own_calls s calls) s)) more
    (record { sent = refl; accepted = refl })
  where
    more : (calls : List Call) (c : Call) → SameArrivals (meter_account_of calls s) (meter_account_of (own_calls s calls) s)
        → SameArrivals (meter_account_of (calls ++ (c ∷ [])) s) (meter_account_of (own_calls s (calls ++ (c ∷ []))) s)
    more calls c q = rw (part-more s calls c, own-more s (λ (earlier : List Call) (c : Call). c) calls c) (go (is_on s c) refl)
      where
        go : (t : Bool) → is_on s c ≡ t
            → SameArrivals (cond t (part_after (free_in (meter_account_of calls)) (meter_account_of calls s) c) (meter_account_of calls s))
            (meter_account_of (own_calls s calls ++ cond t (c ∷ []) []) s)
        go true e = rw (part-more s (own_calls s calls) c, e) (same_after _ _ _ _ c q)
        go false e = rw append-nil q

-- so are its flags
flags-alone : (s : Side) (calls : List Call) → map flag_of (own_replies s calls) ≡ map flag_of (each meter_reply (own_calls s calls))
unfolding of_own each each_after flatten
flags-alone s =
    snoc-ind (λ (calls : List Call). map flag_of (own_replies s calls) ≡ map flag_of (each meter_reply (own_calls s calls))) more refl
  where
    more : (calls : List Call) (c : Call) → map flag_of (own_replies s calls) ≡ map flag_of (each meter_reply (own_calls s calls))
        → map flag_of (own_replies s (calls ++ (c ∷ []))) ≡ map flag_of (each meter_reply (own_calls s (calls ++ (c ∷ []))))
    more calls c q = rw (own-more s meter_reply calls c, own-more s (λ (earlier : List Call) (c : Call). c) calls c) (go (is_on s c) refl)
      where
        go : (t : Bool) → is_on s c ≡ t
            → map flag_of (own_replies s calls ++ cond t (meter_reply calls c ∷ []) [])
            ≡ map flag_of (each meter_reply (own_calls s calls ++ cond t (c ∷ []) []))
        go true e =
            let f : flag_of (meter_reply calls c) ≡ flag_of (meter_reply (own_calls s calls) c) =
            ap flag_of (reply-own s calls c e) ∙ flag_same _ _ c (same-alone s calls)
            ∙ ap flag_of (sym (reply-own s (own_calls s calls) c e)) in
            map-append flag_of (own_replies s calls) (meter_reply calls c ∷ [])
            ∙ ap₂ (λ (l : List Flag) (x : Flag). l ++ (x ∷ [])) q f
            ∙ sym (map-append flag_of (each meter_reply (own_calls s calls)) (meter_reply (own_calls s calls) c ∷ []))
            ∙ sym (ap (map flag_of) (each_more meter_reply (own_calls s calls) c))
        go false e = rw (append-nil, append-nil) q

-- what a stream holds that its account gives
known_alone {ℓ} : {A : Type ℓ} (f : Receiver → A) (of : ℕ → List Arrival → A)
    → ((k : ℕ) (account : List Arrival) (h : Held) → f (state_with k account h) ≡ of k account)
    → (s : Side) (calls : List Call) → f (receiver_of s (meter_after calls)) ≡ f (receiver_of s (meter_after (own_calls s calls)))
known_alone f of e s calls =
    known calls ∙ ap₂ of (same-alone s calls).sent (same-alone s calls).accepted ∙ sym (known (own_calls s calls))
  where
    known : (l : List Call) → f (receiver_of s (meter_after l)) ≡ of (meter_account_of l s).sent (meter_account_of l s).accepted
    known l =
        ap f ((calls-carry l).streams s).state
        ∙ e (meter_account_of l s).sent (meter_account_of l s).accepted (held_by (receiver_of s (meter_after l)))

-- its kept jumps
jumps-alone : (s : Side) (calls : List Call)
    → kept_after s calls ≡ drop (length (jumps_of s (own_calls s calls)) - length (kept_after s calls)) (jumps_of s (own_calls s calls))
jumps-alone s calls =
    let g = (demand3 calls).streams s in
    g.kept ∙ g.last
    ∙ ap (λ (ws : List FirstArrival). drop (length (jumps_of s calls) - length ws) (jumps_of s calls)) (sym g.kept)
    ∙ ap (λ (l : List Arrival). drop (length (jumps (firsts l)) - length (kept_after s calls)) (jumps (firsts l)))
    (same-alone s calls).accepted

alone : (s : Side) (calls : List Call) → Alone s calls
unfolding state_with
alone s calls =
    record {
      flags = flags-alone s calls;
      jumps = jumps-alone s calls;
      runs =
          known_alone (λ (r : Receiver). r.stream.runs) (λ (k : ℕ) (l : List Arrival). runs (answers_in l)) (λ k account h. refl) s calls;
      arrived =
          known_alone (λ (r : Receiver). r.stream.arrived) (λ (k : ℕ) (l : List Arrival). length (firsts l)) (λ k account h. refl) s
          calls;
      duplicates =
          known_alone (λ (r : Receiver). r.stream.duplicates) (λ (k : ℕ) (l : List Arrival). count is_duplicate (answers_in l))
          (λ k account h. refl) s calls;
      inorder =
          known_alone (λ (r : Receiver). r.stream.inorder) (λ (k : ℕ) (l : List Arrival). count is_in_order_answer (answers_in l))
          (λ k account h. refl) s calls;
      sent = known_alone (λ (r : Receiver). r.stream.sent) (λ (k : ℕ) (l : List Arrival). k) (λ k account h. refl) s calls;
      next =
          known_alone (λ (r : Receiver). r.stream.next) (λ (k : ℕ) (l : List Arrival). next_exp (firsts l)) (λ k account h. refl) s calls;
      greatest =
          known_alone (λ (r : Receiver). r.stream.greatest) (λ (k : ℕ) (l : List Arrival). greatest_time l) (λ k account h. refl) s calls;
      marks = known_alone (λ (r : Receiver). r.marks) (λ (k : ℕ) (l : List Arrival). marks_of (firsts l)) (λ k account h. refl) s calls;
    }

-- ---- through the free places only

-- a call with what the stream meets of its neighbour at it
abbrev Met : Type 0
Met = Call × Option ℕ

-- the number of free places that is met, 0 for none
met_free : Option ℕ → ℕ
met_free none = 0
met_free (some free) = free

-- a stream's part after a call, by what it meets
part_from : Part → Met → Part
part_from h t = part_after (met_free t.1) h t.0

-- the number of free places counts at a jump only
free-counts : (s : Side) (calls : List Call) (c : Call)
    → part_after (free_in (meter_account_of calls)) (meter_account_of calls s) c ≡ part_from (meter_account_of calls s) (c, meets s calls c)
unfolding part_after part_from met_free meets
free-counts s calls (arrives n a) =
    let h : Part = meter_account_of calls s in
    let free : ℕ = free_in (meter_account_of calls) in
    let own : ℕ = length h.window in
    ap (λ (ws : List FirstArrival). record { sent = h.sent; accepted = account_with h.sent h.accepted a; window = ws })
    (jump-cases
    (λ (l : List FirstArrival). foldl (kept_with (takes_place own free)) h.window l
    ≡ foldl (kept_with (takes_place own (met_free (free_at free l)))) h.window l)
    refl (λ p. refl) h.sent h.accepted a)
free-counts s calls (starts n k) = refl

-- a stream's own calls, each with what it meets
abbrev met : Side → List Call → Call → Met
met s earlier c = (c, meets s earlier c)

abbrev trace : Side → List Call → List Met
trace s calls = of_own s (met s) calls

-- a stream's part is known from its trace
part-trace : (s : Side) (calls : List Call) → meter_account_of calls s ≡ foldl part_from (fresh_part 1) (trace s calls)
unfolding meter_account_of of_own each each_after flatten account_after
part-trace s = snoc-ind (λ (calls : List Call). meter_account_of calls s ≡ foldl part_from (fresh_part 1) (trace s calls)) more refl
  where
    more : (calls : List Call) (c : Call) → meter_account_of calls s ≡ foldl part_from (fresh_part 1) (trace s calls)
        → meter_account_of (calls ++ (c ∷ [])) s ≡ foldl part_from (fresh_part 1) (trace s (calls ++ (c ∷ [])))
    more calls c q = rw (part-more s calls c, own-more {B = Met} s (met s) calls c) (go (is_on s c))
      where
        go : (t : Bool) → cond t (part_after (free_in (meter_account_of calls)) (meter_account_of calls s) c) (meter_account_of calls s)
            ≡ foldl part_from (fresh_part 1) (trace s calls ++ cond t (met s calls c ∷ []) [])
        go true =
            free-counts s calls c
            ∙ ap (λ (h : Part). part_from h (met s calls c)) q
            ∙ sym (fold_more part_from (fresh_part 1) (trace s calls) (met s calls c))
        go false = rw append-nil q

-- the replies to a stream's calls, from its trace
reply_from : List Met → Met → Reply
reply_from earlier t = reply_in (foldl part_from (fresh_part 1) earlier) t.0

replies-trace : (s : Side) (calls : List Call) → own_replies s calls ≡ each reply_from (trace s calls)
unfolding reply_from of_own each each_after flatten
replies-trace s = snoc-ind (λ (calls : List Call). own_replies s calls ≡ each reply_from (trace s calls)) more refl
  where
    more : (calls : List Call) (c : Call) → own_replies s calls ≡ each reply_from (trace s calls)
        → own_replies s (calls ++ (c ∷ [])) ≡ each reply_from (trace s (calls ++ (c ∷ [])))
    more calls c q = rw (own-more s meter_reply calls c, own-more {B = Met} s (met s) calls c) (go (is_on s c) refl)
      where
        go : (t : Bool) → is_on s c ≡ t → own_replies s calls ++ cond t (meter_reply calls c ∷ []) []
            ≡ each reply_from (trace s calls ++ cond t (met s calls c ∷ []) [])
        go true e =
            ap₂ (λ (l : List Reply) (r : Reply). l ++ (r ∷ [])) q
            (reply-own s calls c e ∙ ap (λ (h : Part). reply_in h c) (part-trace s calls))
            ∙ sym (each_more reply_from (trace s calls) (met s calls c))
        go false e = rw (append-nil, append-nil) q

-- the replies to own calls, each result mapped
own-map {ℓ κ} : {A : Type ℓ} {B : Type κ} (g : A → B) (s : Side) (f : List Call → Call → A) (calls : List Call)
    → map g (of_own s f calls) ≡ of_own s (λ (earlier : List Call) (c : Call). g (f earlier c)) calls
unfolding of_own each each_after flatten
own-map {A} {B} g s f =
    snoc-ind (λ (calls : List Call). map g (of_own s f calls) ≡ of_own s (λ (earlier : List Call) (c : Call). g (f earlier c)) calls) more
    refl
  where
    more : (calls : List Call) (c : Call) → map g (of_own s f calls) ≡ of_own s (λ (earlier : List Call) (c : Call). g (f earlier c)) calls
        → map g (of_own s f (calls ++ (c ∷ []))) ≡ of_own s (λ (earlier : List Call) (c : Call). g (f earlier c)) (calls ++ (c ∷ []))
    more calls c q =
        ap (map g) (own-more s f calls c)
        ∙ go (is_on s c)
        ∙ sym (own-more s (λ (earlier : List Call) (c : Call). g (f earlier c)) calls c)
      where
        go : (t : Bool) → map g (of_own s f calls ++ cond t (f calls c ∷ []) [])
            ≡ of_own s (λ (earlier : List Call) (c : Call). g (f earlier c)) calls ++ cond t (g (f calls c) ∷ []) []
        go true = map-append g (of_own s f calls) (f calls c ∷ []) ∙ ap (λ (l : List B). l ++ (g (f calls c) ∷ [])) q
        go false = rw (append-nil, append-nil) q

-- lists of pairs are equal by their parts
pairs-path : (l m : List Met) → map (λ (t : Met). t.0) l ≡ map (λ (t : Met). t.0) m
    → map (λ (t : Met). t.1) l ≡ map (λ (t : Met). t.1) m → l ≡ m
pairs-path [] [] e f = refl
pairs-path [] (y ∷ m) e f = let z : 0 ≡ suc (length (map (λ (t : Met). t.0) m)) = ap length e in absurd (omega arith)
pairs-path (x ∷ l) [] e f = let z : suc (length (map (λ (t : Met). t.0) l)) ≡ 0 = ap length e in absurd (omega arith)
pairs-path (x ∷ l) (y ∷ m) e f =
    let a : x.0 ≡ y.0 = ap (λ (l : List Call). get_or l 0 x.0) e in
    let b : x.1 ≡ y.1 = ap (λ (l : List (Option ℕ)). get_or l 0 x.1) f in
    ap₂ {C = List Met} (λ t l. t ∷ l) (λ i. (a i, b i)) (pairs-path l m (ap (drop 1) e) (ap (drop 1) f))

-- so traces are
trace-path : (s : Side) (calls others : List Call) → own_calls s calls ≡ own_calls s others
    → of_own s (meets s) calls ≡ of_own s (meets s) others
    → trace s calls ≡ trace s others
trace-path s calls others e f =
    pairs-path (trace s calls) (trace s others)
    (own-map (λ (t : Met). t.0) s (met s) calls ∙ e ∙ sym (own-map (λ (t : Met). t.0) s (met s) others))
    (own-map (λ (t : Met). t.1) s (met s) calls ∙ f ∙ sym (own-map (λ (t : Met). t.1) s (met s) others))

pub independence : Independence
independence =
    record {
      alone = alone;
      free =
          λ s calls others e f. replies-trace s calls ∙ ap (each reply_from) (trace-path s calls others e f) ∙ sym (replies-trace s others);
    }
