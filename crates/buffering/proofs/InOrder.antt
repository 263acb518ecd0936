-- The receiver restores order. Settling passes on every packet that has no smaller number to wait for (`settled-build`), and a number
-- that is overtaken afterwards had none either (`overtaken-settled`). So no packet is left behind (`settle-order`), after each arrival
-- and between two.
-- Here w is the waiting time, t a time, n and s numbers, ps and qs packets, fs first arrivals. Assumes nothing.
use mathlib.Core.Path.{◌≡◌, refl, sym, subst}
use mathlib.Core.Bool.{true, false, ◌&&◌, ◌||◌, true≢false}
use mathlib.Core.List.{List, [], ◌∷◌, ◌++◌}
use Prim.Native.Nat.{ℕ, zero, suc, ◌-◌, ◌≤◌, ◌<◌}
use native.Mathlib.Omega.{arith}
use lib.Dec.{ltb}
use borrow.Author.Tests.{ltb-true, lt-ltb}
use Rattle.rfc4737.specs.declared.Arrival.{Arrival}
use Rattle.rfc4737.specs.Arrivals.{has}
use Rattle.rfc4737.proofs.Tests.{either, both, on-left, on-right, join}
use Rattle.rfc4737.proofs.Lists.{snoc-ind, All, all-weaken}
use Rattle.buffering.specs.Restoring.{Packet, arrivals_of, overtaken, pass_on, settled_to, settle, until, receive, received, NoneBehind, RestoresOrder}
use Rattle.buffering.proofs.InTime.{due, settled_at, received_more}

settled-build : (ps : List Packet) (n : ℕ) → ((s : ℕ) → 1 ≤ s → s ≤ n → (has s (arrivals_of ps) || overtaken s ps) ≡ true)
    → settled_to ps n ≡ true
unfolding settled_to
settled-build ps zero h = refl
settled-build ps (suc n) h =
    join (settled_to ps n) (has (suc n) (arrivals_of ps) || overtaken (suc n) ps) (settled-build ps n (λ s g l. h s g (omega (arith, l))))
    (h (suc n) (omega arith) (omega arith))

-- a packet that was passed on overtakes all smaller numbers
abbrev Overtakes : List Packet → Packet → Type 0
Overtakes ps q = q.passed ≡ true → (s : ℕ) → s < q.arrival.number → overtaken s ps ≡ true

passed-overtakes : (ps : List Packet) → All (Overtakes ps) ps
unfolding overtaken
passed-overtakes [] = tt
passed-overtakes (p ∷ ps) = (
  (λ e s l. on-left (p.passed && ltb s p.arrival.number) (overtaken s ps)
      (join p.passed (ltb s p.arrival.number) e (lt-ltb s p.arrival.number l))),
  all-weaken {P = Overtakes ps} {Q = Overtakes (p ∷ ps)} (λ q k e s l. on-right (p.passed && ltb s p.arrival.number) (overtaken s ps)
      (k e s l)) ps (passed-overtakes ps),
)

-- a number that is overtaken after settling had no smaller number to wait for
overtaken-settled : (ps qs : List Packet) (n : ℕ) → All (Overtakes ps) qs
    → overtaken n (pass_on (λ (a : Arrival). settled_to ps (a.number - 1)) qs) ≡ true → settled_to ps (n - 1) ≡ true
unfolding overtaken pass_on
overtaken-settled ps [] n h e = absurd (true≢false (sym e))
overtaken-settled ps (q ∷ qs) n h e =
    either ((q.passed || settled_to ps (q.arrival.number - 1)) && ltb n q.arrival.number)
    (overtaken n (pass_on (λ (a : Arrival). settled_to ps (a.number - 1)) qs)) e
    (λ b. let k = both (q.passed || settled_to ps (q.arrival.number - 1)) (ltb n q.arrival.number) b in
    let l = ltb-true n q.arrival.number k.1 in
    either q.passed (settled_to ps (q.arrival.number - 1)) k.0
    (λ c. settled-build ps (n - 1) (λ s g i. on-right (has s (arrivals_of ps)) (overtaken s ps) (h.0 c s (omega (arith, g, i, l)))))
    (λ c. settled-build ps (n - 1) (λ s g i. settled_at 0 ps (q.arrival.number - 1) s c g (omega (arith, g, i, l)))))
    (λ b. overtaken-settled ps qs n h.1 b)

none-behind : (all ps qs : List Packet) → ((n : ℕ) → overtaken n all ≡ true → settled_to ps (n - 1) ≡ true)
    → NoneBehind all (pass_on (λ (a : Arrival). settled_to ps (a.number - 1)) qs)
unfolding pass_on
none-behind all ps [] f = tt
none-behind all ps (q ∷ qs) f =
    ((λ e. on-right q.passed (settled_to ps (q.arrival.number - 1)) (f q.arrival.number e)), none-behind all ps qs f)

settle-order : (ps : List Packet) → NoneBehind (settle ps) (settle ps)
unfolding settle
settle-order ps =
    none-behind (pass_on (λ (a : Arrival). settled_to ps (a.number - 1)) ps) ps ps (λ n e. overtaken-settled ps ps n (passed-overtakes ps) e)

received-order : (w : ℕ) (fs : List Arrival) → NoneBehind (received w fs) (received w fs)
unfolding received receive
received-order w = snoc-ind (λ (fs : List Arrival). NoneBehind (received w fs) (received w fs)) more tt
  where
    more : (fs : List Arrival) (a : Arrival) → NoneBehind (received w fs) (received w fs)
        → NoneBehind (received w (fs ++ (a ∷ []))) (received w (fs ++ (a ∷ [])))
    more fs a h =
        subst (λ (ps : List Packet). NoneBehind ps ps) (sym (received_more w fs a))
        (settle-order (until w a.time (received w fs) ++ (record { arrival = a; passed = false } ∷ [])))

pub restores-order : RestoresOrder
unfolding until
restores-order = record { after = received-order; between = λ w t ps. settle-order (pass_on (due w t ps) ps) }
