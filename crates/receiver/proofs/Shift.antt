-- A value that is carried through places from the last on. Held after i places, it stands in the list `held_at i`. A turn stores it in
-- place i, and takes what was there, which is the same list (`held_next`). At the end the list without the value carried is pushed
-- (`pushed-held`). l and t are lists of the places' values, v is the value carried. Assumes nothing.
use Prim.Native.Nat.{ℕ, suc, ◌+◌, ◌<◌}
use mathlib.Core.Bool.{false}
use mathlib.Core.List.{List, [], ◌∷◌, ◌++◌}
use mathlib.Core.Path.{◌≡◌, sym, ap, ◌∙◌}
use native.Mathlib.Numerals.{add-one}
use native.Mathlib.Omega.{arith}
use lib.ListN.{length, take, drop, get_or, set}
use lib.Seq.{take-suc, append_snoc}
use Rattle.std.proofs.lemmas.List.{drop-set, take-set}
use Rattle.receiver.specs.Private.{pushed}

-- the values with another one after the first i
abbrev pub held_at : ℕ → ℕ → List ℕ → List ℕ
held_at i v l = take i l ++ (v ∷ drop i l)

-- the value carried is stored in place i, and the one from there is carried
pub held_next : (t : List ℕ) (i v : ℕ) → i < length t → held_at i (get_or t i 0) (set t i v) ≡ held_at (i + 1) v t
held_next t i v h =
    ap (λ (xs : List ℕ). xs ++ (get_or t i 0 ∷ drop i (set t i v))) (take-set t i v)
    ∙ ap (λ (xs : List ℕ). take i t ++ (get_or t i 0 ∷ xs)) (drop-set t i v h)
    ∙ sym (append_snoc (take i t) (get_or t i 0) (v ∷ drop (i + 1) t))
    ∙ ap (λ (xs : List ℕ). xs ++ (v ∷ drop (i + 1) t)) (sym (take-suc t i 0 h))
    ∙ ap (λ (n : ℕ). take n t ++ (v ∷ drop (i + 1) t)) (sym (add-one i))

-- the first value is dropped
pub pushed-held : (l : List ℕ) (n v : ℕ) → n < length l → drop 1 (held_at (n + 1) v l) ≡ pushed false (n + 1) l v
unfolding pushed
pushed-held [] n v h = absurd (omega arith)
pushed-held (x ∷ l) n v h = rw add-one
