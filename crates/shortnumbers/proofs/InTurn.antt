-- Full numbers in turn: there is one for each (`turn-length`), each is found from the greatest of those before it (`turn_at`), and
-- elements which keep their distance are found from their short ones (`turn-true`). Each is shown for any elements `before`, by induction
-- on the list, where the element just found joins those before; in the last it is the true one, so that those before are true too. l is
-- the list, a its first element, z what stands past the end. Assumes nothing.
use Prim.Native.Nat.{ℕ, zero, suc, ◌<◌}
use native.Mathlib.Omega.{arith}
use mathlib.Core.Path.{◌≡◌, refl, sym, ap, ◌∙◌, subst}
use mathlib.Core.List.{List, [], ◌∷◌, ◌++◌, map, append-nil, append_assoc}
use lib.ListN.{length, get_or, take}
use Rattle.shortnumbers.specs.InTurn.{in_turn, EachKeeps}

module _ {A : Type 0} (greatest : List A → ℕ) (full : ℕ → A → A) where
  -- one for each
  length-after : (before l : List A) → length (in_turn greatest full before l) ≡ length l
  unfolding in_turn
  length-after before [] = refl
  length-after before (a ∷ l) = ap suc (length-after (before ++ (full (greatest before) a ∷ [])) l)

  pub turn-length : (l : List A) → length (in_turn greatest full [] l) ≡ length l
  turn-length l = length-after [] l

  at_after : (before l : List A) (i : ℕ) (z : A) → i < length l
      → get_or (in_turn greatest full before l) i z ≡ full (greatest (before ++ take i (in_turn greatest full before l))) (get_or l i z)
  unfolding in_turn
  at_after before [] i z h = absurd (omega arith)
  at_after before (a ∷ l) zero z h = ap (λ (x : List A). full (greatest x) a) (sym (append-nil before))
  at_after before (a ∷ l) (suc i) z h =
      let b : A = full (greatest before) a in
      at_after (before ++ (b ∷ [])) l i z (omega arith)
      ∙ ap (λ (x : List A). full (greatest x) (get_or l i z)) (append_assoc before (b ∷ [])
      (take i (in_turn greatest full (before ++ (b ∷ [])) l)))

  -- each is found from the greatest of those before it
  pub turn_at : (l : List A) (i : ℕ) (z : A) → i < length l
      → get_or (in_turn greatest full [] l) i z ≡ full (greatest (take i (in_turn greatest full [] l))) (get_or l i z)
  turn_at l i z h = at_after [] l i z h

  module _ (short : A → A) (distance : ℕ → A → Type 0) (finds : (g : ℕ) (a : A) → distance g a → full g (short a) ≡ a) where
    true-after : (before l : List A)
        → ((earlier : List A) (a : A) (later : List A) → l ≡ earlier ++ (a ∷ later) → distance (greatest (before ++ earlier)) a)
        → in_turn greatest full before (map short l) ≡ l
    unfolding in_turn
    true-after before [] keeps = refl
    true-after before (a ∷ l) keeps =
        let here : full (greatest before) (short a) ≡ a =
        finds (greatest before) a (subst (λ (x : List A). distance (greatest x) a) (append-nil before) (keeps [] a l refl)) in
        ap (λ (b : A). b ∷ in_turn greatest full (before ++ (b ∷ [])) (map short l)) here
        ∙ ap (λ (x : List A). a ∷ x) (true-after (before ++ (a ∷ [])) l
        (λ earlier b later e.
        subst (λ (x : List A). distance (greatest x) b) (sym (append_assoc before (a ∷ []) earlier))
        (keeps (a ∷ earlier) b later (ap (λ (x : List A). a ∷ x) e))))

    -- elements that keep their distance are found from their short ones
    pub turn-true : (l : List A) → EachKeeps greatest distance l → in_turn greatest full [] (map short l) ≡ l
    turn-true l k = true-after [] l k.keeps
