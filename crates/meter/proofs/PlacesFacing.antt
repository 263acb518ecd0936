-- Places seen from the one stream and from the other: place k of stream 2 is place 63 - k of stream 1 (`get_d_reverse`), and turned twice
-- they are as they were (`facing-back`). So what one stream writes among its own first n places leaves the other's kept jumps as they
-- were, where both are at most 64 together (`turned-frame`).
-- Here i and j are the places after and before, s is a stream, m the meter, and r the receiver that is put into it. Assumes nothing.
use Prim.Native.Nat.{ℕ, suc, ◌+◌, ◌-◌, ◌≤◌, ◌<◌}
use mathlib.Core.Path.{◌≡◌, refl, sym, ap, ◌∙◌}
use mathlib.Core.List.{List, reverse, reverse-reverse}
use native.Mathlib.Omega.{arith}
use lib.ListN.{length, get_or, length-reverse}
use Rattle.rfc4737.specs.Order.{FirstArrival}
use Rattle.receiver.specs.declared.Places.{Places}
use Rattle.receiver.specs.declared.Receiver.{Receiver}
use Rattle.receiver.specs.Limits.{window_places}
use Rattle.receiver.specs.Kept.{place_at, Held, kept_of}
use Rattle.receiver.proofs.OldestFirst.{get_d_reverse}
use Rattle.receiver.proofs.HeldJumps.{placed-path, places_same, AllPlaces, Holds}
use Rattle.meter.specs.declared.Meter.{Meter}
use Rattle.meter.specs.Streams.{Side, one, two, other, facing, receiver_of, with_receiver}

-- places turned twice
pub facing-back : (p : Places) → facing two (facing two p) ≡ p
facing-back p =
    λ i. record {
      positions = reverse-reverse p.positions i;
      numbers = reverse-reverse p.numbers i;
      times = reverse-reverse p.times i;
    }

-- what a receiver put into a meter is seen as
pub own_back : (s : Side) (r : Receiver) (m : Meter) → receiver_of s (with_receiver s r m) ≡ r
own_back one r m = refl
own_back two r m = ap (λ (p : Places). record { stream = r.stream; marks = r.marks; places = p }) (facing-back r.places)

-- a meter with a stream as it is is the meter
pub put_back : (s : Side) (m : Meter) → with_receiver s (receiver_of s m) m ≡ m
put_back one m = refl
put_back two m = ap (λ (p : Places). record { first = m.first; second = m.second; places = p }) (facing-back m.places)

-- the neighbour sees a stream's places turned
pub other-old : (s : Side) (m : Meter) → facing two (receiver_of s m).places ≡ (receiver_of (other s) m).places
other-old one m = refl
other-old two m = facing-back m.places

-- also after a step
pub other-new : (s : Side) (r : Receiver) (m : Meter) → facing two r.places ≡ (receiver_of (other s) (with_receiver s r m)).places
other-new one r m = refl
other-new two r m = refl

-- the state of `kept` jumps in the reversed places
abbrev pub held_turned : ℕ → ℕ → Places → Held
held_turned kept dropped p = record { kept = kept; dropped = dropped; places = facing two p }

-- the neighbour's places hold what they held, where its kept ones are not written
pub turned-frame : (i j : Places) (kept dropped n : ℕ) (ds ws : List FirstArrival) → AllPlaces i → AllPlaces j → n + kept ≤ window_places
    → ((k : ℕ) → n ≤ k → place_at i k ≡ place_at j k)
    → Holds ds ws (held_turned kept dropped j) → Holds ds ws (held_turned kept dropped i)
unfolding kept_of place_at
turned-frame i j kept dropped n ds ws li lj few frame h =
    record {
      long = record {
        positions = length-reverse i.positions ∙ li.positions;
        numbers = length-reverse i.numbers ∙ li.numbers;
        times = length-reverse i.times ∙ li.times;
      };
      kept = places_same (facing two i) (facing two j) 0 0 kept same ∙ h.kept;
      dropped = h.dropped;
    }
  where
    turned : (a b : List ℕ) (k : ℕ) → length a ≡ window_places → length b ≡ window_places → k < kept
        → get_or a (window_places - suc (0 + k)) 0 ≡ get_or b (window_places - suc (0 + k)) 0
        → get_or (reverse a) (0 + k) 0 ≡ get_or (reverse b) (0 + k) 0
    turned a b k la lb l e =
        get_d_reverse a (0 + k) (rw la (omega arith))
        ∙ ap (λ (m : ℕ). get_or a (m - suc (0 + k)) 0) la
        ∙ e
        ∙ sym (ap (λ (m : ℕ). get_or b (m - suc (0 + k)) 0) lb)
        ∙ sym (get_d_reverse b (0 + k) (rw lb (omega arith)))

    same : (k : ℕ) → k < kept → place_at (facing two i) (0 + k) ≡ place_at (facing two j) (0 + k)
    same k l =
        let f : place_at i (window_places - suc (0 + k)) ≡ place_at j (window_places - suc (0 + k)) =
        frame (window_places - suc (0 + k)) (omega arith) in
        placed-path _ _
        (turned i.positions j.positions k li.positions lj.positions l (ap (λ (p : FirstArrival). p.position) f))
        (turned i.numbers j.numbers k li.numbers lj.numbers l (ap (λ (p : FirstArrival). p.number) f))
        (turned i.times j.times k li.times lj.times l (ap (λ (p : FirstArrival). p.time) f))
