-- Recorded times turned into whole microseconds since the smallest. `after` are the first n times in microseconds, minus the base. A turn
-- of the loop reads the original time at i (`after_read`), so it stores the element of `after` (`after-at`). No difference is negative,
-- since microseconds keep the order and no time is before the first (`after-least`). If the times are sorted, the first is the smallest,
-- so the loop leaves the times of `from_smallest` (`times-converted`). old are the times before, d the times at the head of the loop, base
-- and b what is subtracted, t is a time in microseconds, s a recorded one; l are arrivals and a is one. Assumes nothing.
use Prim.Native.Nat.{ℕ, ◌+◌, ◌-◌, ◌≤◌, ◌<◌}
use native.Mathlib.Omega.{arith}
use mathlib.Core.List.{List, [], ◌∷◌, ◌++◌, map}
use mathlib.Core.Path.{◌≡◌, refl, sym, ap, ◌∙◌}
use lib.ListN.{length, get_or, take, drop, length-map, get_or-map}
use lib.Seq.{get_or-take, get_or-drop, get_or-append-add, length-take-le}
use Rattle.octets.specs.Memory.{over}
use Rattle.octets.proofs.Memory.{over-read, over-drop}
use Rattle.rfc4737.specs.declared.Arrival.{Arrival}
use Rattle.rfc4737.specs.Judge.{numbers_of, times_of}
use Rattle.owamp.specs.Order.{NotBack}
use Rattle.owamp.specs.Clock.{microseconds, smallest, since, from_smallest}
use Rattle.owamp.proofs.Clocks.{micro-rising, rising-smallest}

-- the first n of some times in microseconds after a base
abbrev pub after : ℕ → ℕ → List ℕ → List ℕ
after n base old = map (λ (s : ℕ). microseconds s - base) (take n old)

module _ (n base : ℕ) (old : List ℕ) (room : n ≤ length old) where
  pub after-length : length (after n base old) ≡ n
  after-length = length-map (take n old) (λ (s : ℕ). microseconds s - base) ∙ length-take-le n old room

  module _ (i : ℕ) (h : i < n) {d : List ℕ} (inv : d ≡ take i (after n base old) ++ drop i old) where
    -- what is read is as it was
    pub after_read : get_or d i 0 ≡ get_or old i 0
    after_read =
        let m : length (take i (after n base old)) ≡ i = length-take-le i (after n base old) (let e = after-length in omega arith) in
        let e : i ≡ length (take i (after n base old)) + 0 = omega arith in
        let f : i + 0 ≡ i = omega arith in
        ap (λ (l : List ℕ). get_or l i 0) inv
        ∙ ap (λ (k : ℕ). get_or (take i (after n base old) ++ drop i old) k 0) e
        ∙ get_or-append-add (take i (after n base old)) (drop i old) 0 0
        ∙ get_or-drop i old 0 0
        ∙ ap (λ (k : ℕ). get_or old k 0) f

    -- what is written
    pub after-at : {t : ℕ} → t ≡ microseconds (get_or d i 0) → t - base ≡ get_or (after n base old) i 0
    unfolding microseconds
    after-at e =
        let past : 0 ≡ microseconds 0 - base = omega arith in
        ap (λ (s : ℕ). s - base) (e ∙ ap microseconds (after_read ∙ sym (get_or-take n old i 0 h)))
        ∙ sym (ap (get_or (after n base old) i) past ∙ get_or-map (λ (s : ℕ). microseconds s - base) (take n old) i 0)

    -- nothing below 0
    pub after-least : {t : ℕ} → base ≡ microseconds (get_or old 0 0) → get_or old 0 0 ≤ get_or old i 0 → t ≡ microseconds (get_or d i 0) → base ≤ t
    after-least b g e =
        let p = micro-rising (get_or old 0 0) (get_or old i 0) g in
        let q = e ∙ ap microseconds after_read in
        omega arith

-- ---- the lists of the arrivals

since-times : (b : ℕ) (l : List Arrival) → map (λ (s : ℕ). microseconds s - b) (times_of l) ≡ times_of (map (since b) l)
since-times b [] = refl
since-times b (a ∷ l) = ap (λ (m : List ℕ). (microseconds a.time - b) ∷ m) (since-times b l)

since-numbers : (b : ℕ) (l : List Arrival) → numbers_of l ≡ numbers_of (map (since b) l)
since-numbers b [] = refl
since-numbers b (a ∷ l) = ap (λ (m : List ℕ). a.number ∷ m) (since-numbers b l)

pub smallest-numbers : (l : List Arrival) → numbers_of l ≡ numbers_of (from_smallest l)
unfolding from_smallest
smallest-numbers l = since-numbers (smallest (map microseconds (times_of l))) l

pub smallest-length : (l : List Arrival) → length (from_smallest l) ≡ length l
unfolding from_smallest
smallest-length l = length-map l (since (smallest (map microseconds (times_of l))))

-- the times, from the first on
first-times : (l : List Arrival) (old : List ℕ) → NotBack l
    → map (λ (s : ℕ). microseconds s - microseconds (get_or (over (times_of l) old) 0 0)) (times_of l) ≡ times_of (from_smallest l)
unfolding from_smallest
first-times [] old r = refl
first-times (a ∷ l) old r =
    since-times (microseconds a.time) (a ∷ l) ∙ ap (λ (b : ℕ). times_of (map (since b) (a ∷ l))) (sym (rising-smallest a l r))

-- the list of times as it is left
pub times-converted : (l : List Arrival) (n : ℕ) (old : List ℕ) {d d' : List ℕ} → NotBack l → n ≡ length l → d ≡ over (times_of l) old
    → d' ≡ over (map (λ (s : ℕ). microseconds s - microseconds (get_or d 0 0)) (take n d)) d
    → d' ≡ over (times_of (from_smallest l)) old
times-converted l n old {d} {d'} r e f g =
    let m : length (times_of l) ≡ length l = length-map l (λ (a : Arrival). a.time) in
    let k : n ≡ length (times_of l) = e ∙ sym m in
    let ys : List ℕ = times_of (from_smallest l) in
    let t : take n (over (times_of l) old) ≡ times_of l = ap (λ (j : ℕ). take j (over (times_of l) old)) k ∙ over-read (times_of l) old in
    let u : length ys ≡ length (times_of l) = length-map (from_smallest l) (λ (a : Arrival). a.time) ∙ smallest-length l ∙ sym m in
    let v : drop (length ys) (over (times_of l) old) ≡ drop (length ys) old = over-drop (times_of l) old (length ys) (omega arith) in
    g ∙ ap (λ (x : List ℕ). over (map (λ (s : ℕ). microseconds s - microseconds (get_or x 0 0)) (take n x)) x) f
    ∙ ap (λ (x : List ℕ). over (map (λ (s : ℕ). microseconds s - microseconds (get_or (over (times_of l) old) 0 0)) x)
    (over (times_of l) old)) t
    ∙ ap (λ (x : List ℕ). over x (over (times_of l) old)) (first-times l old r)
    ∙ ap (λ (x : List ℕ). ys ++ x) v
