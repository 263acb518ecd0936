-- A loop over the items of a file in chunks of an item's width. The items in the octets that are left are that of the next chunk and those
-- in the octets after it (`items-left`), and at the start they are the items of the file (`items-all`). Where the items left are those
-- of a list from i on, that of the next chunk is the one at i (`drop-first`). Here os are octets. Assumes nothing.
use Rattle.std.proofs.Common.{◌≡◌, ℕ, zero, suc, ◌+◌, ◌*◌, ◌-◌, ◌/◌, ◌<◌, ◌≤◌, List, [], ◌∷◌, ◌++◌, length, get_or, take, drop, refl, ap, ◌∙◌, arith}
use Rattle.std.proofs.Math.Seq.{take_at, drop_at, take-take}
use Rattle.std.proofs.lemmas.List.{drop-take, length-append, length-take, length-drop}
use native.Mathlib.Nat.{mul-suc}
use Rattle.sample.specs.Format.{arrival_width, items_in}

-- the list from i on, as its first and the rest
pub drop-first {ℓ} : {A : Type ℓ} → (l : List A) (i : ℕ) (z x : A) (xs : List A) → x ∷ xs ≡ drop i l
    → (i < length l) × (x ≡ get_or l i z) × (xs ≡ drop (i + 1) l)
drop-first [] zero z x xs e = (cc, cc, cc)
drop-first [] (suc i) z x xs e = (cc, cc, cc)
drop-first (y ∷ l) zero z x xs e = (omega arith, cc, cc)
drop-first (y ∷ l) (suc i) z x xs e =
    let p = drop-first l i z x xs e in
    (omega (arith, p.0), p.1, p.2 ∙ ap (λ (n : ℕ). drop n (y ∷ l)) (let n : suc (i + 1) ≡ suc i + 1 = omega arith in n))

module _ {A : Type 0} (width : ℕ) (item : List ℕ → A) where
  -- n + 1 items: that of the first chunk, and n after it
  items-more : (n : ℕ) (os chunk rest : List ℕ) → os ≡ chunk ++ rest → length chunk ≡ width
      → items_in width item (suc n) os ≡ item chunk ∷ items_in width item n rest
  unfolding items_in
  items-more n os chunk rest e h = rw (e, take_at chunk rest width h, drop_at chunk rest width h)

  -- n items in their octets alone
  items-taken : (n : ℕ) (os : List ℕ) → items_in width item n (take (width * n) os) ≡ items_in width item n os
  unfolding items_in
  items-taken zero os = refl
  items-taken (suc n) os =
      let m : width * suc n ≡ width + width * n = rw mul-suc (omega arith) in
      rw (m, take-take width (width + width * n) os (omega arith), drop-take width (width * n) os, items-taken n (drop width os))

module _ {A : Type 0} (item : List ℕ → A) where
  -- the arrivals in these octets
  abbrev pub arrivals_left : List ℕ → List A
  arrivals_left os = items_in arrival_width item (length os / arrival_width) os

  -- that of the next chunk, and those after it
  pub items-left : (os chunk rest : List ℕ) → os ≡ chunk ++ rest → length chunk ≡ arrival_width
      → arrivals_left os ≡ item chunk ∷ arrivals_left rest
  items-left os chunk rest e h =
      let l : length os ≡ length chunk + length rest = ap length e ∙ length-append chunk rest in
      let n : length os / arrival_width ≡ suc (length rest / arrival_width) = omega arith in
      ap (λ (k : ℕ). items_in arrival_width item k os) n ∙ items-more arrival_width item (length rest / arrival_width) os chunk rest e h

  -- at the start
  pub items-all : (at count : ℕ) (file os : List ℕ) → at + arrival_width * count ≤ length file
      → os ≡ take (at + arrival_width * count - at) (drop at file)
      → arrivals_left os ≡ items_in arrival_width item count (drop at file)
  items-all at count file os h e =
      let m : at + arrival_width * count - at ≡ arrival_width * count = omega arith in
      let f : os ≡ take (arrival_width * count) (drop at file) = e ∙ ap (λ (k : ℕ). take k (drop at file)) m in
      let l : length os ≡ arrival_width * count =
      ap length f ∙ length-take (arrival_width * count) (drop at file) ∙ (omega (arith, length-drop at file)) in
      let n : length os / arrival_width ≡ count = omega arith in
      ap (λ (k : ℕ). items_in arrival_width item k os) n ∙ ap (items_in arrival_width item count) f
      ∙ items-taken arrival_width item count (drop at file)

  -- at the end
  pub items-none : (os : List ℕ) → length os < arrival_width → arrivals_left os ≡ []
  unfolding items_in
  items-none os h =
      let n : length os / arrival_width ≡ 0 = omega arith in
      ap (λ (k : ℕ). items_in arrival_width item k os) n
