-- The lines of a text, by induction on its octets o ∷ t and by cases on whether o is a line feed: then it is a line of its own, else it
-- goes in front of the first line of t. So octets other than a line feed, with a line feed after them, are the first line (`plain-line`).
-- The lines, one after the other, are the text (`lines-joined`). A text that is not empty has a first line, which begins with its first
-- octet, and then come the lines of what is left (`first-line`).
-- Here x, a and b are octets without a line feed, u what follows, l a line and ls lines. Assumes nothing.
use Prim.Native.Nat.{ℕ}
use mathlib.Core.Bool.{Bool, true, false, cond}
use mathlib.Core.Path.{◌≡◌, refl, ap, ◌∙◌}
use mathlib.Core.List.{List, [], ◌∷◌, ◌++◌, flatten}
use lib.Dec.{eqb}
use Rattle.octets.specs.Text.{line_feed, in_front, lines}

-- octets other than a line feed
pub data Plain : List ℕ → Type 0 where
  none : Plain []
  some : {o : ℕ} {l : List ℕ} → eqb o line_feed ≡ false → Plain l → Plain (o ∷ l)

-- one after the other
pub plain-append : {a b : List ℕ} → Plain a → Plain b → Plain (a ++ b)
plain-append none q = q
plain-append (some e p) q = some e (plain-append p q)

-- with a line feed after them they are the first line
pub plain-line : {x : List ℕ} → Plain x → (u : List ℕ) → lines (x ++ (line_feed ∷ u)) ≡ (x ++ (line_feed ∷ [])) ∷ lines u
unfolding lines
plain-line none u = refl
plain-line (some {o} e p) u = rw e (ap (in_front o) (plain-line p u))

-- the lines, one after the other, are the text
pub lines-joined : (t : List ℕ) → flatten (lines t) ≡ t
unfolding lines flatten
lines-joined [] = refl
lines-joined (o ∷ t) = go (eqb o line_feed) (lines t) ∙ ap (λ (x : List ℕ). o ∷ x) (lines-joined t)
  where
    go : (b : Bool) (ls : List (List ℕ)) → flatten (cond b ((o ∷ []) ∷ ls) (in_front o ls)) ≡ o ∷ flatten ls
    go true ls = refl
    go false [] = refl
    go false (l ∷ ls) = refl

-- the first line of o ∷ t: o, the octets with which t begins, and then come the lines of the rest of t
pub record First (o : ℕ) (t : List ℕ) : Type 0 where
  pub text : List ℕ
  pub rest : List ℕ
  pub split : t ≡ text ++ rest
  pub lead : lines (o ∷ t) ≡ (o ∷ text) ∷ lines rest

pub first-line : (o : ℕ) (t : List ℕ) → First o t
unfolding lines
first-line o [] = record { text = []; rest = []; split = refl; lead = same (eqb o line_feed) }
  where
    same : (b : Bool) → cond b ((o ∷ []) ∷ []) ((o ∷ []) ∷ []) ≡ (o ∷ []) ∷ []
    same true = refl
    same false = refl
first-line o (p ∷ t) = go (eqb o line_feed) refl (first-line p t)
  where
    go : (b : Bool) → eqb o line_feed ≡ b → First p t → First o (p ∷ t)
    go true e f = record { text = []; rest = p ∷ t; split = refl; lead = rw e }
    go false e f =
        record { text = p ∷ f.text; rest = f.rest; split = ap (λ (x : List ℕ). p ∷ x) f.split; lead = rw e (ap (in_front o) f.lead) }
