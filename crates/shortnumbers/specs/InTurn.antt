-- Full numbers in turn, each found from the greatest accepted before it. Assumes nothing.
use Rattle.std.specs.Prelude.{ℕ, max, ◌≡◌}
use mathlib.Core.List.{List, [], ◌∷◌, ◌++◌, foldl}

-- the greatest of some numbers, 0 for none
unfoldable pub greatest_of : List ℕ → ℕ
greatest_of l = foldl max 0 l

-- `greatest` gives the greatest number accepted of some elements with their full numbers
module _ {A : Type 0} (greatest : List A → ℕ) where
  -- elements with their full numbers: `full g a` is a with the number found from g, the greatest accepted of those before a, which
  -- are those of `before` and of the list
  unfoldable pub in_turn : (ℕ → A → A) → List A → List A → List A
  in_turn full before [] = []
  in_turn full before (a ∷ l) = full (greatest before) a ∷ in_turn full (before ++ (full (greatest before) a ∷ [])) l

  -- each element keeps a distance from the greatest accepted before it
  pub record EachKeeps (distance : ℕ → A → Type 0) (l : List A) : Type 0 where
    pub keeps : (earlier : List A) (a : A) (later : List A) → l ≡ earlier ++ (a ∷ later) → distance (greatest earlier) a
