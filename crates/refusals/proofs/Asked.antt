-- The words of all refusals fit, by computation over the table. The code's table holds them at the same numbers (`words_at`). Here n is a
-- number, z what is read past the table's end. Assumes nothing.
use Prim.Native.Nat.{ℕ, zero, suc, ◌≤◌, ◌<◌, max}
use native.Mathlib.Omega.{arith}
use mathlib.Core.List.{List, [], ◌∷◌, map}
use mathlib.Core.Bool.{true, false}
use mathlib.Core.Path.{◌≡◌, refl, ap, ◌∙◌}
use denote.Bor.{Bor}
use lib.ListN.{length, get_or}
use Rattle.rfc4737.specs.Refusals.{outside, asked_outside}
use Rattle.refusals.specs.Words.{all_words, words_of, WordsFit, asked_refusal}

-- the octets of the longest of some texts
abbrev longest : List (List ℕ) → ℕ
longest [] = 0
longest (t ∷ ts) = max (length t) (longest ts)

-- no text has more
longest-most : (texts : List (List ℕ)) (n : ℕ) → length (get_or texts n []) ≤ longest texts
longest-most [] n = omega arith
longest-most (t ∷ ts) zero =
    let h : length t ≤ max (length t) (longest ts) = omega arith in
    h
longest-most (t ∷ ts) (suc n) =
    let h = longest-most ts n in
    let m : length (get_or ts n []) ≤ max (length t) (longest ts) = omega arith in
    m

pub words-fit : WordsFit
unfolding words_of
words-fit =
    record {
      most = λ n.
          let h = longest-most all_words n in
          let e : longest all_words ≡ 120 = refl in
          omega arith;
    }

-- the words of a refusal, from a table that holds all words
pub words_at : (table : List (Bor (List ℕ))) (z : Bor (List ℕ)) (n : ℕ) → n < length table
    → map (λ (words : Bor (List ℕ)). words.now) table ≡ all_words → (get_or table n z).now ≡ words_of n
unfolding words_of
words_at table z n h e = go table n h ∙ ap (λ (texts : List (List ℕ)). get_or texts n []) e
  where
    go : (l : List (Bor (List ℕ))) (i : ℕ) → i < length l → (get_or l i z).now ≡ get_or (map (λ (words : Bor (List ℕ)). words.now) l) i []
    go [] i h = absurd (omega arith)
    go (w ∷ l) zero h = refl
    go (w ∷ l) (suc i) h = go l i (omega arith)

-- a number that is no refusal is refused
pub asked-outside : (n : ℕ) → outside 1 18 n ≡ true → asked_outside ≡ asked_refusal n
unfolding asked_refusal
asked-outside n e = rw e

-- one that is one is not
pub asked-none : (n : ℕ) → outside 1 18 n ≡ false → asked_refusal n ≡ 0
unfolding asked_refusal
asked-none n e = rw e
