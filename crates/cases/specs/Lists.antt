-- The numbers of a text as a list has room for them. Assumes nothing.
use Rattle.std.specs.Prelude.{ℕ, List, map, take}
use Rattle.cases.specs.Text.{numbers_in}

-- the numbers of a text that a list of length `places` has room for, each as `cut` takes it
abbrev pub numbers_within : {A : Type 0} → (ℕ → A) → ℕ → List ℕ → List A
numbers_within cut places t = take places (map cut (numbers_in t))
