-- The tree while a value is added at a number: the indices before i have their share of it, those from i on not yet (`Partly`). The next
-- index that holds the number is i + (i - rest i), and no index between has a share (`partly-next`, by `rest-between`). At the start i is
-- the number itself, below which no index holds it (`partly_none`); past the last index all have their share (`partly-all`). old and new
-- are the tree before and now, j is an index. Assumes nothing.
use Rattle.std.proofs.Common.{◌≡◌, ℕ, ◌+◌, ◌-◌, ◌%◌, ◌^◌, ◌<◌, ◌≤◌, Bool, true, false, cond, eqb, ltb, List, length, get_or, set, refl, ap, ◌∙◌, arith, length-set, get_or-set_other, get_or-set_same, ltb-false, ltb-true, le-ltb, lt-ltb, eqb-true, le-leb}
use borrow.Author.Tests.{eqb-false, lt-leb}
use Rattle.sums.specs.Tree.{rest, share, Added}
use Rattle.sums.proofs.Lowest.{rest-low, rest-between}

module _ (number value i : ℕ) where
  -- an index takes all of a value at a number that it holds
  share-all : rest i < number → number ≤ i → share number value i ≡ value
  unfolding share
  share-all a b = simp (lt-ltb _ _ a, le-leb _ _ b)

  -- nothing of one at a greater number
  share-greater : i < number → share number value i ≡ 0
  unfolding share
  share-greater a = let k = rest-low i in simp (lt-ltb (rest i) number (omega arith), lt-leb _ _ a)

  -- nothing of one at a smaller number
  share-smaller : number ≤ rest i → share number value i ≡ 0
  unfolding share
  share-smaller a = simp (le-ltb _ _ a)

  -- what it takes is what the sums over the greater numbers differ by
  pub share-sum : share number value i + cond (ltb i number) value 0 ≡ cond (ltb (rest i) number) value 0
  share-sum = go (ltb i number) refl (ltb (rest i) number) refl
    where
      go : (t : Bool) → ltb i number ≡ t → (u : Bool) → ltb (rest i) number ≡ u → share number value i + cond t value 0 ≡ cond u value 0
      go true e true f = rw (share-greater (ltb-true i number e)) (omega arith)
      go true e false f = absurd (omega (arith, rest-low i, ltb-true i number e, ltb-false (rest i) number f))
      go false e true f = rw (share-all (ltb-true (rest i) number f) (ltb-false i number e)) (omega arith)
      go false e false f = rw (share-smaller (ltb-false (rest i) number f))

-- nothing added to a number that fits leaves it
none-added : (n s : ℕ) → n < 2 ^ 32 → s ≡ 0 → n ≡ (n + s) % 2 ^ 32
none-added n s fits z = omega arith

-- a tree while a value is added at a number: it stands at the indices before i, and not yet from there on
pub record Partly (number value i : ℕ) (old new : List ℕ) : Type 0 where
  pub places : length new ≡ length old
  pub below : (j : ℕ) → j < i → get_or new j 0 ≡ (get_or old j 0 + share number value j) % 2 ^ 32
  pub from : (j : ℕ) → i ≤ j → get_or new j 0 ≡ get_or old j 0

module _ (number value : ℕ) (old : List ℕ) (fits : (j : ℕ) → get_or old j 0 < 2 ^ 32) where
  -- at the start
  pub partly_none : Partly number value number old old
  partly_none = record { places = refl; below = λ j h. none-added _ _ (fits j) (share-greater number value j h); from = λ j h. refl }

  -- at the next index
  pub partly-next : (i x : ℕ) (new : List ℕ) → number ≤ i → rest i < number → i < length new → x ≡ (get_or new i 0 + value) % 2 ^ 32
      → Partly number value i old new → Partly number value (i + (i - rest i)) old (set new i x)
  partly-next i x new a b c sum p =
      record {
        places = length-set new i x ∙ p.places;
        below = λ j h. go j h (eqb j i) refl (ltb j i) refl;
        from = λ j h. other j (omega arith) ∙ p.from j (omega arith);
      }
    where
      other : (j : ℕ) → (j ≡ i → ⊥) → get_or (set new i x) j 0 ≡ get_or new j 0
      other j d = get_or-set_other new i j x 0 d

      go : (j : ℕ) → j < i + (i - rest i) → (t : Bool) → eqb j i ≡ t → (u : Bool) → ltb j i ≡ u
          → get_or (set new i x) j 0 ≡ (get_or old j 0 + share number value j) % 2 ^ 32
      go j h true e u f =
          rw (eqb-true j i e, share-all number value i b a)
          (get_or-set_same new i x 0 c ∙ sum ∙ ap (λ (n : ℕ). (n + value) % 2 ^ 32) (p.from i (omega arith)))
      go j h false e true f = other j (eqb-false j i e) ∙ p.below j (ltb-true j i f)
      go j h false e false f =
          let after : i < j = omega (arith, eqb-false j i e, ltb-false j i f) in
          other j (eqb-false j i e) ∙ p.from j (omega arith)
          ∙ none-added _ _ (fits j) (share-smaller number value j (omega (arith, rest-between i j after h)))

  -- at the end
  pub partly-all : (i : ℕ) (new : List ℕ) → length new ≤ i → Partly number value i old new → Added number value old new
  partly-all i new h p = record { places = p.places; at = λ j k. p.below j (omega (arith, p.places)) }

  -- at number 0
  pub added-nowhere : number ≡ 0 → Added number value old old
  added-nowhere z = record { places = refl; at = λ j k. none-added _ _ (fits j) (share-smaller number value j (omega arith)) }
