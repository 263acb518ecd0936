-- The first line of a text o ∷ t: o alone if it is a line feed (`feed`), else o before the first line of t (`other`). It is the start of
-- the text (`first_taken`). Line n + 1 is line n of what follows it (`next-line`), and starts as far after it (`next_start`). The search
-- for its end stands at an offset `end` before which there is no line feed. What is left of the line is the first line of the text from
-- there on (`LeftFrom`). Assumes nothing.
use Prim.Native.Nat.{ℕ, zero, suc, ◌+◌, ◌-◌, ◌≤◌, ◌<◌}
use native.Mathlib.Numerals.{add-one}
use native.Mathlib.Omega.{arith}
use mathlib.Core.Path.{◌≡◌, refl, sym, ap, ◌∙◌}
use mathlib.Core.List.{List, [], ◌∷◌, ◌++◌, flatten}
use borrow.Author.Tests.{eq-eqb, ne_eqb}
use lib.ListN.{length, get_or, take, drop, length-append, drop_of_length-le}
use lib.Seq.{take-nil, drop-cons, drop_at, drop-drop, take-append_seam}
use Rattle.octets.specs.Text.{line_feed, in_front, lines}
use Rattle.octets.proofs.Text.{first-line}
use Rattle.text_lines.specs.Line.{line_of, line_start, line_part, LineThere, FirstLineEnds}

pub feed : (o : ℕ) (t : List ℕ) → o ≡ line_feed → line_of 0 (o ∷ t) ≡ o ∷ []
unfolding line_of lines
feed o t e = rw (eq-eqb o line_feed e)

front : (o : ℕ) (ls : List (List ℕ)) → get_or (in_front o ls) 0 [] ≡ o ∷ get_or ls 0 []
front o [] = refl
front o (l ∷ ls) = refl

pub other : (o : ℕ) (t : List ℕ) → (o ≡ line_feed → ⊥) → line_of 0 (o ∷ t) ≡ o ∷ line_of 0 t
unfolding line_of lines
other o t h = rw (ne_eqb o line_feed h) (front o (lines t))

-- of no text
taken_none : line_of 0 [] ≡ take (length (line_of 0 [])) []
unfolding line_of lines
taken_none = refl

next-none : (n : ℕ) → line_of (suc n) [] ≡ line_of n (drop (length (line_of 0 [])) [])
unfolding line_of lines
next-none n = refl

start_none : (n : ℕ) → line_start (suc n) [] ≡ length (line_of 0 []) + line_start n (drop (length (line_of 0 [])) [])
unfolding line_of line_start lines flatten
start_none zero = refl
start_none (suc n) = refl

-- of a text o ∷ t whose first line and rest are known
module _ (o : ℕ) (t text rest : List ℕ) (split : t ≡ text ++ rest) (lead : lines (o ∷ t) ≡ (o ∷ text) ∷ lines rest) where
  taken-some : line_of 0 (o ∷ t) ≡ take (length (line_of 0 (o ∷ t))) (o ∷ t)
  unfolding line_of
  taken-some = rw (lead, split) (ap (λ (l : List ℕ). o ∷ l) (sym (take-append_seam text rest)))

  next-some : (n : ℕ) → line_of (suc n) (o ∷ t) ≡ line_of n (drop (length (line_of 0 (o ∷ t))) (o ∷ t))
  unfolding line_of
  next-some n = rw (lead, split) (ap (λ (l : List ℕ). get_or (lines l) n []) (sym (drop_at text rest (length text) refl)))

  start-some : (n : ℕ) → line_start (suc n) (o ∷ t) ≡ length (line_of 0 (o ∷ t)) + line_start n (drop (length (line_of 0 (o ∷ t))) (o ∷ t))
  unfolding line_of line_start flatten
  start-some n =
      rw (lead, split) (length-append (o ∷ text) (flatten (take n (lines rest)))
      ∙ ap (λ (l : List ℕ). length (o ∷ text) + length (flatten (take n (lines l)))) (sym (drop_at text rest (length text) refl)))

-- the first line is the start of the text
pub first_taken : (t : List ℕ) → line_of 0 t ≡ take (length (line_of 0 t)) t
first_taken [] = taken_none
first_taken (o ∷ t) =
    let f = first-line o t in
    taken-some o t f.text f.rest f.split f.lead

-- line n + 1 is line n of what follows the first line
pub next-line : (n : ℕ) (t : List ℕ) → line_of (suc n) t ≡ line_of n (drop (length (line_of 0 t)) t)
next-line n [] = next-none n
next-line n (o ∷ t) =
    let f = first-line o t in
    next-some o t f.text f.rest f.split f.lead n

-- and starts where that does, after the first line
next_start : (n : ℕ) (t : List ℕ) → line_start (suc n) t ≡ length (line_of 0 t) + line_start n (drop (length (line_of 0 t)) t)
next_start n [] = start_none n
next_start n (o ∷ t) =
    let f = first-line o t in
    start-some o t f.text f.rest f.split f.lead n

-- the first line starts at 0
pub start_first : (t : List ℕ) → line_start 0 t ≡ 0
unfolding line_start flatten
start_first t = refl

-- at the end of a text there is no line, and each starts there
pub line-none : (text : List ℕ) (at n : ℕ) → length text ≤ at → line_of n (drop at text) ≡ line_of 0 (drop at text)
unfolding line_of lines
line-none text at n h = rw (drop_of_length-le text h) refl

pub start-last : (text : List ℕ) (at n : ℕ) → length text ≤ at → line_start n (drop at text) ≡ 0
unfolding line_start lines flatten
start-last text at n h = rw (drop_of_length-le text h, take-nil {A = List ℕ} n) refl

-- the line after the first of what a text has from `at` on
pub line_after : (text : List ℕ) (at end n : ℕ) → 0 < n → FirstLineEnds text at end
    → line_of n (drop at text) ≡ line_of (n - 1) (drop end text)
line_after text at end zero h f = absurd (omega arith)
line_after text at end (suc n) h f =
    let e : suc n - 1 ≡ n = omega arith in
    rw e (next-line n (drop at text)
    ∙ ap (line_of n) (drop-drop (length (line_of 0 (drop at text))) at text ∙ ap (λ (k : ℕ). drop k text) (sym f.place)))

-- and its start
pub start-after : (text : List ℕ) (at end n : ℕ) → 0 < n → FirstLineEnds text at end
    → at + line_start n (drop at text) ≡ end + line_start (n - 1) (drop end text)
start-after text at end zero h f = absurd (omega arith)
start-after text at end (suc n) h f =
    let e : suc n - 1 ≡ n = omega arith in
    let d = drop-drop (length (line_of 0 (drop at text))) at text ∙ ap (λ (k : ℕ). drop k text) (sym f.place) in
    let s = next_start n (drop at text) ∙ ap (λ (t : List ℕ). length (line_of 0 (drop at text)) + line_start n t) d in
    rw e (omega (arith, s, f.place))

-- the first line of what a text has from `at` on, as a part of it
pub first_part : (text : List ℕ) (at end : ℕ) → FirstLineEnds text at end → take (end - at) (drop at text) ≡ line_of 0 (drop at text)
first_part text at end f =
    let e : end - at ≡ length (line_of 0 (drop at text)) = omega (arith, f.place) in
    ap (λ (k : ℕ). take k (drop at text)) e ∙ sym (first_taken (drop at text))

-- line n of a text whose start and end are known: it is the first line from its start on
module _ (n : ℕ) (text : List ℕ) (start end : ℕ) (line : line_of n text ≡ line_of 0 (drop start text)) (at : line_start n text ≡ start)
    (f : FirstLineEnds text start end) where
  long : end - start ≡ length (line_of n text)
  long =
      let l : length (line_of n text) ≡ length (line_of 0 (drop start text)) = ap length line in
      omega (arith, l, f.place)

  -- as a part
  pub part-told : record { start = start; length = end - start } ≡ line_part n text
  part-told = rw (at, sym long) refl

  pub part-there : LineThere n text
  part-there =
      let l : length (line_of n text) ≡ length (line_of 0 (drop start text)) = ap length line in
      record {
        within = omega (arith, l, at, f.place, f.within);
        line = rw at (ap (λ (k : ℕ). take k (drop start text)) (sym long) ∙ first_part text start end f ∙ sym line);
      }

-- ---- the search for the end of the line that begins at `at`

pub record LeftFrom (text : List ℕ) (at end : ℕ) : Type 0 where
  pub within : end ≤ length text
  pub left : at + length (line_of 0 (drop at text)) ≡ end + length (line_of 0 (drop end text))

module _ (text : List ℕ) (at end : ℕ) (l : LeftFrom text at end) where
  -- a line feed ends it
  pub ends-here : end < length text → get_or text end 0 ≡ line_feed → FirstLineEnds text at (end + 1)
  ends-here h f =
      let e : length (line_of 0 (drop end text)) ≡ 1 =
      ap (λ (t : List ℕ). length (line_of 0 t)) (drop-cons text end 0 h) ∙ ap length (feed (get_or text end 0) (drop (suc end) text) f) in
      record { place = omega (arith, l.left, e); within = omega arith }

  -- another octet is a part of it
  pub goes_on : end < length text → (get_or text end 0 ≡ line_feed → ⊥) → LeftFrom text at (end + 1)
  goes_on h f =
      let e : length (line_of 0 (drop end text)) ≡ suc (length (line_of 0 (drop (suc end) text))) =
      ap (λ (t : List ℕ). length (line_of 0 t)) (drop-cons text end 0 h) ∙ ap length (other (get_or text end 0) (drop (suc end) text) f) in
      rw (add-one end) (record { within = omega arith; left = omega (arith, l.left, e) })

  -- and so does the end of the text
  pub ends_last : length text ≤ end → FirstLineEnds text at end
  unfolding line_of lines
  ends_last h =
      let e : length (line_of 0 (drop end text)) ≡ 0 = ap (λ (t : List ℕ). length (line_of 0 t)) (drop_of_length-le text h) in
      record { place = omega (arith, l.left, e); within = l.within }
