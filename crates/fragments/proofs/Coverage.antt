-- One pass over a packet's arrivals, sorted by start, finds the first octet that is not covered. `run` has the places of its arrivals in
-- l, in that order. Invariant (`OnePass`): the packet is covered up to r, and none of the first j arrivals has octet r. The next arrival
-- a moves r to its end if it has octet r (`pass-next`). An earlier arrival starts no later than a, so no later than r, and does not have
-- r. So it ends at r or before, and has no later octet (`no-later`). In the end all are passed, and no other arrival belongs to the
-- packet (`pass-done`). The search for a last fragment that ends at r or before goes through them from the end (`Unended`). A whole
-- packet among them settles it (`whole-found`). l are the arrivals, s is the packet, o an octet, r the reach, d an earlier arrival, j and
-- m are indices in the run. Assumes nothing.
use Prim.Native.Nat.{ℕ, ◌+◌, ◌≤◌, ◌<◌}
use native.Mathlib.Omega.{arith}
use mathlib.Core.Bool.{Bool, true, false, cond, ◌&&◌, true≢false}
use mathlib.Core.Path.{◌≡◌, refl, sym, ap, ◌∙◌, subst}
use mathlib.Core.List.{List}
use borrow.Author.Tests.{lt-ltb, ltb-true, ltb-false, le-leb, leb-true, eqb-true, eq-eqb}
use lib.Dec.{leb, ltb, eqb}
use lib.ListN.{length, get_or}
use Rattle.fragments.specs.declared.Piece.{Piece}
use Rattle.fragments.specs.Pieces.{any, is_last, is_whole, piece_start, piece_end}
use Rattle.fragments.specs.Usable.{has_octet, every_below, covered, complete}
use Rattle.fragments.specs.Private.{no_piece, Cover, Reach, ends_by}
use Rattle.fragments.specs.Places.{Run}
use Rattle.fragments.proofs.Laws.{both, every-below, any_at, any_none, octet-of, ends_of, complete-ends}

octet-facts : (s o : ℕ) (a : Piece) → has_octet s o a ≡ true → (a.number ≡ s) × ((piece_start a ≤ o) × (o < piece_end a))
unfolding has_octet
octet-facts s o a e =
    let p = both (eqb a.number s) (leb (piece_start a) o && ltb o (piece_end a)) e in
    let q = both (leb (piece_start a) o) (ltb o (piece_end a)) p.1 in
    (eqb-true a.number s p.0, (leb-true (piece_start a) o q.0, ltb-true o (piece_end a) q.1))

octet-has : (s o : ℕ) (a : Piece) → a.number ≡ s → piece_start a ≤ o → o < piece_end a → has_octet s o a ≡ true
unfolding has_octet
octet-has s o a e h g = rw (eq-eqb a.number s e, le-leb (piece_start a) o h, lt-ltb o (piece_end a) g)

-- for the packet's own arrivals the octet alone decides, and the end
octet-own : (s o : ℕ) (a : Piece) → a.number ≡ s → has_octet s o a ≡ (leb (piece_start a) o && ltb o (piece_end a))
unfolding has_octet
octet-own s o a e = rw (eq-eqb a.number s e)

ends-own : (s r : ℕ) (a : Piece) → a.number ≡ s → ends_by s r a ≡ (is_last a && leb (piece_end a) r)
unfolding ends_by
ends-own s r a e = rw (eq-eqb a.number s e)

-- one that starts by r and does not have r has no later octet
no-later : (s r r' : ℕ) (d : Piece) → piece_start d ≤ r → r ≤ r' → has_octet s r d ≡ false → has_octet s r' d ≡ false
no-later s r r' d h k e = go (has_octet s r' d) refl
  where
    go : (t : Bool) → has_octet s r' d ≡ t → t ≡ false
    go false q = refl
    go true q = let f = octet-facts s r' d q in absurd (true≢false (sym (octet-has s r d f.0 h (omega (arith, f.1.1))) ∙ e))

module _ (l : List Piece) (s : ℕ) (run : List ℕ) where
  -- the arrival at a place of the run
  abbrev piece_in : ℕ → Piece
  piece_in m = get_or l (get_or run m 0) no_piece

  -- covered up to r, and none of the first j has the octet r
  pub record OnePass (r j : ℕ) : Type 0 where
    pub covered : Cover l s r
    pub passed : (m : ℕ) → m < j → has_octet s r (piece_in m) ≡ false

  -- none of those from m on ends by r
  pub record Unended (r m : ℕ) : Type 0 where
    pub passed : (k : ℕ) → m ≤ k → k < length run → (is_last (piece_in k) && leb (piece_end (piece_in k)) r) ≡ false

  module _ (w : Run l s run) where
    -- a test that no arrival of the run passes, and none of another packet, is passed by none
    none_passes : (p : Piece → Bool) → ((a : Piece) → (a.number ≡ s → ⊥) → p a ≡ false)
        → ((m : ℕ) → m < length run → p (piece_in m) ≡ false) → any p l ≡ false
    none_passes p only h = any_none p l no_piece (λ (i : ℕ) (g : i < length l). go i g (eqb (get_or l i no_piece).number s) refl)
      where
        go : (i : ℕ) → i < length l → (t : Bool) → eqb (get_or l i no_piece).number s ≡ t → p (get_or l i no_piece) ≡ false
        go i g true e =
            let f = w.all i g (eqb-true (get_or l i no_piece).number s e) in
            subst (λ (j : ℕ). p (get_or l j no_piece) ≡ false) f.1.1 (h f.0 f.1.0)
        go i g false e = only (get_or l i no_piece) (λ q. true≢false (sym (eq-eqb (get_or l i no_piece).number s q) ∙ e))

    pass-more : (r j : ℕ) → j < length run → OnePass r j → OnePass (cond (has_octet s r (piece_in j)) (piece_end (piece_in j)) r) (j + 1)
    pass-more r j h p = go (has_octet s r (piece_in j)) refl
      where
        go : (t : Bool) → has_octet s r (piece_in j) ≡ t → OnePass (cond t (piece_end (piece_in j)) r) (j + 1)
        go false e = record { covered = p.covered; passed = λ m k. old m k (ltb m j) refl }
          where
            old : (m : ℕ) → m < j + 1 → (t : Bool) → ltb m j ≡ t → has_octet s r (piece_in m) ≡ false
            old m k true q = p.passed m (ltb-true m j q)
            old m k false q = let z : m ≡ j = omega (arith, ltb-false m j q) in rw z e
        go true e = record { covered = λ o k. more o k (ltb o r) refl; passed = λ m k. old m k (ltb m j) refl }
          where
            f : ((piece_in j).number ≡ s) × ((piece_start (piece_in j) ≤ r) × (r < piece_end (piece_in j)))
            f = octet-facts s r (piece_in j) e

            more : (o : ℕ) → o < piece_end (piece_in j) → (t : Bool) → ltb o r ≡ t → any (has_octet s o) l ≡ true
            more o k true q = p.covered o (ltb-true o r q)
            more o k false q =
                let b : r ≤ o = ltb-false o r q in
                any_at (has_octet s o) l (get_or run j 0) no_piece (w.inside j h) (octet-has s o (piece_in j) f.0 (omega (arith, f.1.0)) k)

            old : (m : ℕ) → m < j + 1 → (t : Bool) → ltb m j ≡ t → has_octet s (piece_end (piece_in j)) (piece_in m) ≡ false
            old m k true q =
                let i : m < j = ltb-true m j q in
                no-later s r (piece_end (piece_in j)) (piece_in m) (omega (arith, w.rising m j (omega arith) h, f.1.0))
                (omega (arith, f.1.1)) (p.passed m i)
            old m k false q =
                let z : m ≡ j = omega (arith, ltb-false m j q) in
                rw z (none (has_octet s (piece_end (piece_in j)) (piece_in j)) refl)
              where
                none : (t : Bool) → has_octet s (piece_end (piece_in j)) (piece_in j) ≡ t → t ≡ false
                none false x = refl
                none true x = absurd (omega (arith, (octet-facts s (piece_end (piece_in j)) (piece_in j) x).1.1))

    -- the next arrival, and how far it takes the reach
    pub pass-next : (r j r' : ℕ) (a : Piece) → j < length run → a ≡ piece_in j
        → r' ≡ cond (leb (piece_start a) r && ltb r (piece_end a)) (piece_end a) r → OnePass r j → OnePass r' (j + 1)
    pass-next r j r' a h e q p =
        let own : has_octet s r (piece_in j) ≡ (leb (piece_start (piece_in j)) r && ltb r (piece_end (piece_in j))) =
        octet-own s r (piece_in j) (w.own j h) in
        let z : r' ≡ cond (has_octet s r (piece_in j)) (piece_end (piece_in j)) r =
        q ∙ ap (λ (b : Piece). cond (leb (piece_start b) r && ltb r (piece_end b)) (piece_end b) r) e
        ∙ sym (ap (λ (t : Bool). cond t (piece_end (piece_in j)) r) own) in
        subst (λ (x : ℕ). OnePass x (j + 1)) (sym z) (pass-more r j h p)

    pub pass-done : (r j : ℕ) → length run ≤ j → OnePass r j → Reach l s r
    pass-done r j h p =
        record { covered = p.covered; uncovered = none_passes (has_octet s r) (λ a n. octet-of s r a n) (λ m g. p.passed m (omega arith)) }

    -- ---- the search for the end

    -- one that ends by the reach makes the packet complete
    pub ends_found : (r m : ℕ) (a : Piece) → m < length run → a ≡ piece_in m → (is_last a && leb (piece_end a) r) ≡ true → Reach l s r
        → true ≡ complete l s
    ends_found r m a h e q g =
        let f : ends_by s r (piece_in m) ≡ true =
        ends-own s r (piece_in m) (w.own m h) ∙ ap (λ (b : Piece). is_last b && leb (piece_end b) r) (sym e) ∙ q in
        sym (complete-ends l s r g ∙ any_at (ends_by s r) l (get_or run m 0) no_piece (w.inside m h) f)

    -- if there is none it is not
    pub ends-none : (r m : ℕ) → m ≤ 0 → Unended r m → Reach l s r → false ≡ complete l s
    ends-none r m h u g =
        sym (complete-ends l s r g ∙ none_passes (ends_by s r) (λ a n. ends_of s r a n)
        (λ k n. ends-own s r (piece_in k) (w.own k n) ∙ u.passed k (omega arith) n))

    -- a whole packet is complete by itself
    pub whole-found : (m : ℕ) (a : Piece) → m < length run → a ≡ piece_in m → is_whole a ≡ true → true ≡ complete l s
    unfolding complete covered
    whole-found m a h e q =
        let f = both (is_last (piece_in m)) (eqb (piece_in m).offset 0) (ap is_whole (sym e) ∙ q) in
        let z : (piece_in m).offset ≡ 0 = eqb-true (piece_in m).offset 0 f.1 in
        let c : every_below (piece_end (piece_in m)) (λ (o : ℕ). any (has_octet s o) l) ≡ true =
        every-below (piece_end (piece_in m)) (λ (o : ℕ). any (has_octet s o) l)
        (λ o g. any_at (has_octet s o) l (get_or run m 0) no_piece (w.inside m h)
        (octet-has s o (piece_in m) (w.own m h) (omega (arith, z)) g)) in
        sym (any_at (λ (b : Piece). eqb b.number s && (is_last b && covered l s (piece_end b))) l (get_or run m 0) no_piece (w.inside m h)
        (rw (eq-eqb (piece_in m).number s (w.own m h), f.0, c)))
