-- Items of `width` octets each, one after the other. By induction on their number item i stands at width * i (`items-get_or`,
-- `items-stand`), and there are width times as many octets as items (`octets-many`). Where each item, written, reads back as itself so do
-- all of them (`read-written`), and where each item's octets, read, are written back as themselves so are all octets (`written_read`): both
-- by splitting off the first item. Then an arrival, two numbers one after the other, and a size, one number, have this. Here `item` reads
-- an item from its octets and `octets` writes it; xs are items, os octets, n or count a number of items, at and start are offsets, i an
-- item's index, z what is read past the end, a an arrival. Assumes nothing.
use Prim.Native.Nat.{ℕ, zero, suc, ◌+◌, ◌*◌, ◌^◌, ◌-◌, ◌≤◌, ◌<◌}
use native.Mathlib.Nat.{mul-zero, mul-suc}
use native.Mathlib.Omega.{arith}
use mathlib.Core.Path.{◌≡◌, refl, sym, ap, ap₂, ◌∙◌, subst}
use mathlib.Core.List.{List, [], ◌∷◌, ◌++◌, append_assoc, append-nil}
use lib.ListN.{length, get_or, take, drop, length-append, length-take, length-drop, take-append-drop}
use lib.Seq.{take_all, take_at, drop_at, drop-drop, take-add, length-take-le}
use Rattle.octets.specs.Below.{Octets}
use Rattle.octets.specs.BigEndian.{be_value, be_octets}
use Rattle.octets.specs.Memory.{part}
use Rattle.octets.proofs.Below.{below-take, below-drop, below-part}
use Rattle.octets.proofs.BigEndian.{octets-length, value-octets, octets-value, value-fits}
use Rattle.octets.proofs.Memory.{take_snoc, part-part, part-most, taken, taken-part}
use Rattle.rfc4737.specs.declared.Arrival.{Arrival}
use Rattle.sample.specs.Format.{size_width, number_width, time_width, arrival_width, item_octets, items_in, size_octets, arrival_octets}
use Rattle.sample.specs.Decode.{arrival_in}

-- the value of `width` octets of a file fits them
pub part-fits : (width at : ℕ) (file : List ℕ) → Octets file → be_value (part at width file) < 256 ^ width
part-fits width at file o = value-fits width (part at width file) (below-part 256 at width file o) (part-most at width file)

-- so does the value of n octets of an item that is taken from a file
pub taken-fits : (start width from n : ℕ) (file : List ℕ) {v : ℕ} → Octets file → v ≡ be_value (part from n (taken start width file))
    → v < 256 ^ n
taken-fits start width from n file o e =
    rw e (part-fits n from (taken start width file) (below-part 256 start (start + width - start) file o))

-- the same value, where it stands in the file
taken-stands : (start width from n at : ℕ) (file : List ℕ) {v : ℕ} → from + n ≤ width → start + from ≡ at
    → v ≡ be_value (part from n (taken start width file))
    → v ≡ be_value (part at n file)
taken-stands start width from n at file h p e = e ∙ ap be_value (taken-part start width from n file h ∙ ap (λ (k : ℕ). part k n file) p)

-- `width` octets are written back as themselves
pub value-back : (width : ℕ) (os : List ℕ) → Octets os → length os ≡ width → be_octets width (be_value os) ≡ os
value-back width os o h = subst (λ (n : ℕ). be_octets n (be_value os) ≡ os) h (octets-value os o)

module _ {ℓ} {A : Type ℓ} (width : ℕ) (item : List ℕ → A) where
  pub items-length : (n : ℕ) (os : List ℕ) → length (items_in width item n os) ≡ n
  unfolding items_in
  items-length zero os = refl
  items-length (suc n) os = ap suc (items-length n (drop width os))

  -- where each stands
  pub items-get_or : (n : ℕ) (os : List ℕ) (i : ℕ) (z : A) → i < n → get_or (items_in width item n os) i z ≡ item (part (width * i) width os)
  unfolding items_in
  items-get_or zero os i z h = absurd (omega arith)
  items-get_or (suc n) os zero z h = rw mul-zero
  items-get_or (suc n) os (suc i) z h =
      items-get_or n (drop width os) i z (omega arith)
      ∙ ap (λ (l : List ℕ). item (take width l)) (drop-drop (width * i) width os
      ∙ ap (λ (k : ℕ). drop k os) (let e : width + width * i ≡ width * suc i = rw mul-suc (omega arith) in e))

  -- where each stands in a file, from a place on
  pub items-stand : (n at : ℕ) (file : List ℕ) (i : ℕ) (z : A) → i < n
      → get_or (items_in width item n (drop at file)) i z ≡ item (part (at + width * i) width file)
  items-stand n at file i z h =
      items-get_or n (drop at file) i z h ∙ ap (λ (l : List ℕ). item (take width l)) (drop-drop (width * i) at file)

module _ {ℓ} {A : Type ℓ} (octets : A → List ℕ) where
  pub octets-append : (xs ys : List A) → item_octets octets (xs ++ ys) ≡ item_octets octets xs ++ item_octets octets ys
  unfolding item_octets
  octets-append [] ys = refl
  octets-append (x ∷ xs) ys = rw (octets-append xs ys, append_assoc)

  -- under one item more
  pub octets-snoc : (xs : List A) (i : ℕ) (z : A) → i < length xs
      → item_octets octets (take (i + 1) xs) ≡ item_octets octets (take i xs) ++ octets (get_or xs i z)
  unfolding item_octets
  octets-snoc xs i z h =
      ap (item_octets octets) (take_snoc xs i z h) ∙ octets-append (take i xs) (get_or xs i z ∷ [])
      ∙ ap (λ (l : List ℕ). item_octets octets (take i xs) ++ l) (append-nil (octets (get_or xs i z)))

  module _ (width : ℕ) (long : (x : A) → length (octets x) ≡ width) where
    pub octets-many : (xs : List A) → length (item_octets octets xs) ≡ width * length xs
    unfolding item_octets
    octets-many [] = sym (mul-zero width)
    octets-many (x ∷ xs) =
        length-append (octets x) (item_octets octets xs)
        ∙ ap₂ (λ (a b : ℕ). a + b) (long x) (octets-many xs)
        ∙ (let e : width + width * length xs ≡ width * suc (length xs) = rw mul-suc (omega arith) in e)

    module _ (item : List ℕ → A) where
      -- items that each read back as themselves do so one after the other
      pub read-written : (xs : List A) (z : A) (rest : List ℕ) → ((i : ℕ) → i < length xs → item (octets (get_or xs i z)) ≡ get_or xs i z)
          → items_in width item (length xs) (item_octets octets xs ++ rest) ≡ xs
      unfolding item_octets items_in
      read-written [] z rest h = refl
      read-written (x ∷ xs) z rest h =
          let e : (octets x ++ item_octets octets xs) ++ rest ≡ octets x ++ (item_octets octets xs ++ rest) =
          append_assoc (octets x) (item_octets octets xs) rest in
          rw (
            e,
            take_at (octets x) (item_octets octets xs ++ rest) width (long x),
            drop_at (octets x) (item_octets octets xs ++ rest) width (long x),
            h 0 (omega arith),
            read-written xs z rest (λ i p. h (suc i) (omega arith)),
          )

      -- octets of which each item's are written back as themselves are so one after the other
      pub written_read : ((os : List ℕ) → Octets os → length os ≡ width → octets (item os) ≡ os)
          → (n : ℕ) (os : List ℕ) → Octets os → width * n ≤ length os → item_octets octets (items_in width item n os) ≡ take (width * n) os
      unfolding item_octets items_in
      written_read back zero os o h = rw mul-zero
      written_read back (suc n) os o h =
          let m : width * suc n ≡ width + width * n = rw mul-suc (omega arith) in
          let p : width ≤ length os = omega arith in
          let q : width * n ≤ length (drop width os) = simp length-drop (omega arith) in
          rw (
            m,
            take-add width (width * n) os,
            back (take width os) (below-take 256 width os o) (length-take-le width os p),
            written_read back n (drop width os) (below-drop 256 width os o) q,
          )

-- ---- an arrival

pub arrival-long : (a : Arrival) → length (arrival_octets a) ≡ arrival_width
unfolding arrival_octets
arrival-long a = simp (length-append, octets-length)

-- an arrival whose values fit reads back as itself
pub arrival-read : (a : Arrival) → a.number < 2 ^ 32 → a.time < 2 ^ 64 → arrival_in (arrival_octets a) ≡ a
unfolding arrival_in arrival_octets
arrival-read a h k =
    let n = be_octets number_width a.number in
    let t = be_octets time_width a.time in
    let l = octets-length number_width a.number in
    let g : take time_width t ≡ t = take_all time_width t (omega (arith, octets-length time_width a.time)) in
    rw (take_at n t number_width l, drop_at n t number_width l, g, value-octets number_width a.number h, value-octets time_width a.time k)

-- as many octets are written back as themselves
pub arrival-back : (os : List ℕ) → Octets os → length os ≡ arrival_width → arrival_octets (arrival_in os) ≡ os
unfolding arrival_in arrival_octets
arrival-back os o h =
    let n = take number_width os in
    let t = drop number_width os in
    let p : length n ≡ number_width = simp length-take (omega arith) in
    let q : length t ≡ time_width = simp length-drop (omega arith) in
    let g : take time_width t ≡ t = take_all time_width t (omega arith) in
    rw (g, value-back number_width n (below-take 256 number_width os o) p, value-back time_width t (below-drop 256 number_width os o) q)
    (take-append-drop number_width os)

-- its time, where it stands
pub time-stands : (at : ℕ) (file : List ℕ) → (arrival_in (part at arrival_width file)).time ≡ be_value (part (at + number_width) time_width file)
unfolding arrival_in
time-stands at file = ap be_value (part-part at arrival_width number_width time_width file (omega arith))

-- the arrival in its octets as they are taken
pub arrival-taken : (start : ℕ) (file : List ℕ) {a : Arrival} → a ≡ arrival_in (taken start arrival_width file)
    → a ≡ arrival_in (part start arrival_width file)
arrival-taken start file e =
    let w : start + arrival_width - start ≡ arrival_width = omega arith in
    e ∙ ap (λ (n : ℕ). arrival_in (part start n file)) w

-- ---- a size

-- a size in its octets as they are taken, as one of the sizes
pub size-taken : (count at : ℕ) (file : List ℕ) (i n : ℕ) → i < count
    → n ≡ be_value (part 0 size_width (taken (at + size_width * i) size_width file))
    → n ≡ get_or (items_in size_width be_value count (drop at file)) i 0
size-taken count at file i n h e =
    taken-stands (at + size_width * i) size_width 0 size_width (at + size_width * i) file (omega arith) (omega arith) e
    ∙ sym (items-stand size_width be_value count at file i 0 h)

pub size-long : (size : ℕ) → length (size_octets size) ≡ size_width
size-long size = octets-length size_width size
