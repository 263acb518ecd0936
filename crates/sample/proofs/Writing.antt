-- Items written into a buffer one after the other: after i turns of a loop, memory is `splice` of the octets of the first i items from an
-- offset on. A turn borrows the part of the next item and overwrites all of it. That is a splice where the first i items end, so both are
-- one splice of i + 1 items (`write-next`). A section is its count and then its items (`section-done`), and an arrival's octets are its
-- number and then its time (`arrival-put`): two writes side by side that are one. Here `octets` gives an item's octets, `width` of them;
-- xs are the items, at their offset, old memory where the loop begins and d at its head, inv the invariant, lent the part after the put, z
-- what is read past the end; ns and ts are lists of numbers and of times. Assumes nothing.
use Prim.Native.Nat.{ℕ, suc, ◌+◌, ◌*◌, ◌-◌, ◌≤◌, ◌<◌}
use native.Mathlib.Nat.{mul-suc, mul-le-mul, le_refl}
use native.Mathlib.Omega.{arith}
use mathlib.Core.Path.{◌≡◌, sym, ap, ◌∙◌, subst}
use mathlib.Core.List.{List, ◌++◌}
use lib.ListN.{length, get_or, take, drop, length-take}
use lib.Seq.{take_all}
use Rattle.octets.specs.BigEndian.{be_octets}
use Rattle.octets.specs.Memory.{splice, put}
use Rattle.octets.proofs.BigEndian.{octets-length}
use Rattle.octets.proofs.Memory.{splice-nil, splice-length, splice-next, taken, put-room, put_next, put-lent}
use Rattle.rfc4737.specs.declared.Arrival.{Arrival}
use Rattle.rfc4737.specs.Judge.{arrivals_from}
use Rattle.sample.specs.Format.{count_width, number_width, time_width, arrival_width, items_at, section, arrival_octets, item_octets}
use Rattle.rfc4737.proofs.Pairs.{arrivals-get_or}
use Rattle.sample.proofs.Items.{octets-snoc, octets-many}

module _ {ℓ} {A : Type ℓ} (octets : A → List ℕ) (width : ℕ) (long : (x : A) → length (octets x) ≡ width) (xs : List A) (at : ℕ)
    (old : List ℕ)
    (room : at + width * length xs ≤ length old) where
  -- at the start
  pub write-start : old ≡ splice at (item_octets octets (take 0 xs)) old
  unfolding item_octets
  write-start = sym (splice-nil at old)

  module _ (i : ℕ) {d : List ℕ} (inv : d ≡ splice at (item_octets octets (take i xs)) old) where
    -- the octets of the first i
    first : i ≤ length xs → length (item_octets octets (take i xs)) ≡ width * i
    first h =
        octets-many octets width long (take i xs)
        ∙ ap (λ (n : ℕ). width * n) (let e : length (take i xs) ≡ i = simp length-take (omega arith) in e)

    -- there is room for them
    within : i ≤ length xs → at + length (item_octets octets (take i xs)) ≤ length old
    within h =
        let e = first h in
        let p : width * i ≤ width * length xs = mul-le-mul (le_refl width) h in
        omega arith

    pub write-length : i ≤ length xs → length d ≡ length old
    write-length h = ap length inv ∙ splice-length at (item_octets octets (take i xs)) old (within h)

    -- a turn: the octets of the item at i are put over the part that is lent for them
    pub write-next : (z : A) {lent : List ℕ} → i < length xs
        → lent ≡ put 0 (octets (get_or xs i z)) (taken (at + width * i) width d)
        → take (at + width * i) d ++ (lent ++ drop (at + width * i + width - (at + width * i)) (drop (at + width * i) d))
        ≡ splice at (item_octets octets (take (i + 1) xs)) old
    write-next z {lent} h e =
        let k : i ≤ length xs = omega arith in
        let l : length d ≡ length old = write-length k in
        let m : width * suc i ≡ width * i + width = mul-suc width i in
        let q : width * suc i ≤ width * length xs = mul-le-mul (le_refl width) h in
        let r : at + width * i + width ≤ length d = omega arith in
        let s : at + length (item_octets octets (take i xs)) ≡ at + width * i = ap (λ (v : ℕ). at + v) (first k) in
        let t : at ≤ length old = omega arith in
        put-lent (at + width * i) width (octets (get_or xs i z)) d (long (get_or xs i z)) r e
        ∙ ap (splice (at + width * i) (octets (get_or xs i z))) inv
        ∙ splice-next at (at + width * i) (item_octets octets (take i xs)) (octets (get_or xs i z)) old s t
        ∙ ap (λ (os : List ℕ). splice at os old) (sym (octets-snoc octets xs i z h))

    -- the same, where the part begins at `start`
    pub write-from : (z : A) (start : ℕ) {lent : List ℕ} → start ≡ at + width * i → i < length xs
        → lent ≡ put 0 (octets (get_or xs i z)) (taken start width d)
        → take start d ++ (lent ++ drop (start + width - start) (drop start d)) ≡ splice at (item_octets octets (take (i + 1) xs)) old
    write-from z start {lent} s h =
        let P : ℕ → Type 0 = λ n. lent ≡ put 0 (octets (get_or xs i z)) (taken n width d)
        → take n d ++ (lent ++ drop (n + width - n) (drop n d)) ≡ splice at (item_octets octets (take (i + 1) xs)) old in
        subst P (sym s) (write-next z h)

    -- at the end
    pub write_done : length xs ≤ i → d ≡ splice at (item_octets octets xs) old
    write_done h = inv ∙ ap (λ (l : List A). splice at (item_octets octets l) old) (take_all i xs h)

-- a section: its count, and its items' octets after it
pub section-done : (at n : ℕ) (os old : List ℕ) {old' d : List ℕ} → items_at at + length os ≤ length old
    → old' ≡ put at (be_octets count_width n) old
    → d ≡ splice (items_at at) os old' → d ≡ splice at (section n os) old
unfolding section
section-done at n os old room e f =
    let c = be_octets count_width n in
    let l : length c ≡ count_width = octets-length count_width n in
    let q : at + length c ≡ items_at at = ap (λ (k : ℕ). at + k) l in
    f ∙ ap (splice (items_at at) os) (e ∙ put-room at c old (omega arith)) ∙ splice-next at (items_at at) c os old q (omega arith)

-- an arrival, of a list of numbers and a list of times, put into its octets: its number, then its time
pub arrival-put : (ns ts : List ℕ) (i : ℕ) (z : Arrival) (old : List ℕ) {d d' : List ℕ} → length ts ≡ length ns → i < length ns
    → arrival_width ≤ length old
    → d ≡ put 0 (be_octets number_width (get_or ns i 0)) old → d' ≡ put number_width (be_octets time_width (get_or ts i 0)) d
    → d' ≡ put 0 (arrival_octets (get_or (arrivals_from ns ts) i z)) old
unfolding arrival_octets
arrival-put ns ts i z old l h room e f =
    let number : List ℕ = be_octets number_width (get_or ns i 0) in
    let time : List ℕ = be_octets time_width (get_or ts i 0) in
    let m : length number ≡ number_width = octets-length number_width (get_or ns i 0) in
    let n : length time ≡ time_width = octets-length time_width (get_or ts i 0) in
    let p : 0 + length number ≡ number_width = omega arith in
    let q : number_width + length time ≤ length old = omega arith in
    f ∙ ap (put number_width time) e ∙ put_next 0 number_width number time old p q
    ∙ ap (λ (x : Arrival). put 0 (arrival_octets x) old) (arrivals-get_or ns ts i z l h)
