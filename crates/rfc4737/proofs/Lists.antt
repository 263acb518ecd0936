-- Laws of lists of any elements. `snoc-ind` is induction on one element more at the end, shown for a list after any elements (`from`).
-- `All` and `Ordered` of two lists one after the other are taken apart and put together by induction on the first list. `each` under one
-- element more at the end is shown of `each_after`, for any elements before, and so are the laws of `each` over the values of a function,
-- and of the values of a function over `each`; a left fold, `drop` and `flatten` over the values of a function go by induction on the
-- list, and what a table of zeros has at a place by induction on both. Here P and Q say something of an element, R of two; l, m and ls
-- are lists, a and b elements, f is the step of a fold or of `each`, and g the function that is mapped. Assumes nothing.
use Prim.Native.Nat.{ℕ, zero, suc, ◌<◌}
use native.Mathlib.Omega.{arith}
use lib.ListN.{get_or, take, drop, replicate}
use mathlib.Core.Path.{◌≡◌, refl, ap, ◌∙◌}
use mathlib.Core.List.{List, [], ◌∷◌, ◌++◌, Memᴰ, append-nil, append_assoc, map, map-append, foldl, flatten}
use Rattle.rfc4737.specs.Arrivals.{each_after, each}

module _ {ℓ κ} {A : Type ℓ} (P : List A → Type κ) (more : (l : List A) (a : A) → P l → P (l ++ (a ∷ []))) where
  -- what holds of the elements before holds of them with the list
  from : (before l : List A) → P before → P (before ++ l)
  from before [] h = rw append-nil h
  from before (a ∷ l) h = let k = from (before ++ (a ∷ [])) l (more before a h) in rw append_assoc at k

  -- what holds of no elements, and of a list with one element more where it holds of the list, holds of all
  pub snoc-ind : P [] → (l : List A) → P l
  snoc-ind none l = from [] l none

module _ {ℓ} {A : Type ℓ} where
  -- P holds of every element
  abbrev pub All : (A → Type 0) → List A → Type 0
  All P [] = Unit
  All P (a ∷ l) = P a × All P l

  -- R holds of every element and each that follows it
  abbrev pub Ordered : (A → A → Type 0) → List A → Type 0
  Ordered R [] = Unit
  Ordered R (a ∷ l) = All (R a) l × Ordered R l

  -- what follows of each element follows of every element
  pub all-weaken : {P Q : A → Type 0} → ((a : A) → P a → Q a) → (l : List A) → All P l → All Q l
  all-weaken f [] h = tt
  all-weaken f (a ∷ l) h = (f a h.0, all-weaken f l h.1)

  -- what holds of any element holds of every one of a list
  pub all-every : (P : A → Type 0) → ((a : A) → P a) → (l : List A) → All P l
  all-every P f [] = tt
  all-every P f (a ∷ l) = (f a, all-every P f l)

  -- what holds of each element and what else holds hold together
  pub all_both : {P Q : A → Type 0} {R : A → Type 0} → ((a : A) → P a → Q a → R a) → (l : List A) → All P l → All Q l → All R l
  all_both f [] h g = tt
  all_both f (a ∷ l) h g = (f a h.0 g.0, all_both f l h.1 g.1)

  module _ (P : A → Type 0) where
    -- of every element of two lists, one after the other
    pub all_append : (l m : List A) → All P l → All P m → All P (l ++ m)
    all_append [] m h g = g
    all_append (a ∷ l) m h g = (h.0, all_append l m h.1 g)

    -- of every element of the first part
    pub all_left : (l m : List A) → All P (l ++ m) → All P l
    all_left [] m h = tt
    all_left (a ∷ l) m h = (h.0, all_left l m h.1)

    -- of every element of the second part
    pub all_right : (l m : List A) → All P (l ++ m) → All P m
    all_right [] m h = h
    all_right (a ∷ l) m h = all_right l m h.1

    -- what holds of every element holds of any one
    pub all-member : {a : A} {l : List A} → Memᴰ a l → All P l → P a
    all-member (Memᴰ.head e) h = rw e h.0
    all-member (Memᴰ.tail m) h = all-member m h.1

    -- what holds at each of the first places holds of every element of the first part
    pub all_take : (z : A) (l : List A) (i : ℕ) → ((j : ℕ) → j < i → P (get_or l j z)) → All P (take i l)
    all_take z l zero h = tt
    all_take z [] (suc i) h = tt
    all_take z (a ∷ l) (suc i) h = (h 0 (omega arith), all_take z l i (λ j k. h (suc j) (omega arith)))

  module _ (R : A → A → Type 0) where
    -- one element more at the end, of which R holds after each before it
    pub ordered-more : (l : List A) (b : A) → Ordered R l → All (λ (a : A). R a b) l → Ordered R (l ++ (b ∷ []))
    ordered-more [] b h g = (tt, tt)
    ordered-more (a ∷ l) b h g = (all_append (R a) l (b ∷ []) h.0 (g.0, tt), ordered-more l b h.1 g.1)

    -- the first part of an ordered list is ordered
    pub ordered-left : (l m : List A) → Ordered R (l ++ m) → Ordered R l
    ordered-left [] m h = tt
    ordered-left (a ∷ l) m h = (all_left (R a) l m h.0, ordered-left l m h.1)

    -- R holds of every element of the first part and each of the second
    pub ordered-across : (l m : List A) → Ordered R (l ++ m) → All (λ (a : A). All (R a) m) l
    ordered-across [] m h = tt
    ordered-across (a ∷ l) m h = (all_right (R a) l m h.0, ordered-across l m h.1)

  -- `flatten` under one list more
  pub flatten-more : (ls : List (List A)) (l : List A) → flatten (ls ++ (l ∷ [])) ≡ flatten ls ++ l
  unfolding flatten
  flatten-more [] l = append-nil l
  flatten-more (k ∷ ls) l = rw (flatten-more ls l, append_assoc)

module _ {ℓ κ} {A : Type ℓ} {B : Type κ} (f : List A → A → B) where
  -- `each_after` under one element more
  each_after-more : (before l : List A) (a : A) → each_after f before (l ++ (a ∷ [])) ≡ each_after f before l ++ (f (before ++ l) a ∷ [])
  unfolding each_after
  each_after-more before [] a = rw append-nil
  each_after-more before (b ∷ l) a = rw (each_after-more (before ++ (b ∷ [])) l a, append_assoc)

  -- `each` under one element more
  pub each_more : (l : List A) (a : A) → each f (l ++ (a ∷ [])) ≡ each f l ++ (f l a ∷ [])
  unfolding each
  each_more l a = each_after-more [] l a

-- `each` of two functions that agree
pub each_same {ℓ κ} : {A : Type ℓ} {B : Type κ} (f g : List A → A → B)
    → ((l : List A) (a : A) → f l a ≡ g l a)
    → (l : List A)
    → each f l ≡ each g l
unfolding each each_after
each_same {A} f g h = snoc-ind (λ (l : List A). each f l ≡ each g l) more refl
  where
    more : (l : List A) (a : A) → each f l ≡ each g l → each f (l ++ (a ∷ [])) ≡ each g (l ++ (a ∷ []))
    more l a e = rw (each_more f l a, each_more g l a, e, h l a)

-- ---- lists of the values of a function

-- a left fold over values of g, where each step from a value of h is a value of h
pub fold-map {ℓ κ} : {A : Type ℓ} {B : Type κ} (g : A → A) (h : B → B) (f : B → A → B) → ((b : B) (a : A) → f (h b) (g a) ≡ h (f b a))
    → (b : B) (l : List A) → foldl f (h b) (map g l) ≡ h (foldl f b l)
fold-map g h f same b [] = refl
fold-map {A} {B} g h f same b (a ∷ l) = ap (λ (x : B). foldl f x (map g l)) (same b a) ∙ fold-map g h f same (f b a) l

-- all but the first n values of g
pub drop-map {ℓ κ} : {A : Type ℓ} {B : Type κ} (g : A → B) (n : ℕ) (l : List A) → drop n (map g l) ≡ map g (drop n l)
drop-map g zero l = refl
drop-map g (suc n) [] = refl
drop-map g (suc n) (a ∷ l) = drop-map g n l

-- `each` over values of g, where f of these is h
module _ {ℓ κ} {A : Type ℓ} {B : Type κ} (g : A → A) (f h : List A → A → B) (same : (l : List A) (a : A) → f (map g l) (g a) ≡ h l a) where
  each_after-map : (before l : List A) → each_after f (map g before) (map g l) ≡ each_after h before l
  unfolding each_after
  each_after-map before [] = refl
  each_after-map before (a ∷ l) = rw (same before a, ← map-append g before (a ∷ []), each_after-map (before ++ (a ∷ [])) l)

  pub each_map : (l : List A) → each f (map g l) ≡ each h l
  unfolding each
  each_map l = each_after-map [] l

-- g of each value that `each` gives
module _ {ℓ κ μ} {A : Type ℓ} {B : Type κ} {C : Type μ} (g : B → C) (f : List A → A → B) where
  map-each_after : (before l : List A) → map g (each_after f before l) ≡ each_after (λ (l : List A) (a : A). g (f l a)) before l
  unfolding each_after
  map-each_after before [] = refl
  map-each_after before (a ∷ l) = ap (λ (m : List C). g (f before a) ∷ m) (map-each_after (before ++ (a ∷ [])) l)

  pub map_each : (l : List A) → map g (each f l) ≡ each (λ (l : List A) (a : A). g (f l a)) l
  unfolding each
  map_each l = map-each_after [] l

-- g of each element of the lists that `flatten` joins
pub flatten-map {ℓ κ} : {A : Type ℓ} {B : Type κ} (g : A → B) (ls : List (List A)) → flatten (map (map g) ls) ≡ map g (flatten ls)
unfolding flatten
flatten-map g [] = refl
flatten-map g (l ∷ ls) = rw (flatten-map g ls, map-append g l (flatten ls))

-- a table of zeros has 0 at every place, and past them
pub zeros : (n k : ℕ) → get_or {A = ℕ} (replicate n 0) k 0 ≡ 0
zeros zero k = refl
zeros (suc n) zero = refl
zeros (suc n) (suc k) = zeros n k
