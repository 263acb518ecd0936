-- The lines of a log. A line of the form has a line feed at its end and no other, so it is the first line of a text that begins with it
-- (`line_first`). A line decodes exactly if it has the form and fits (`exact-line`): `complete` reads what has the form, to its end;
-- `sound` gives the form of what is read, and as it is read to its end nothing is left over. So what is read at an offset of a log is the
-- first line from there on, and the others are those of what follows (`line_read`); and where nothing is read the first line is malformed,
-- since otherwise it would be read (`line-unread`); both are said of what the lines decode to. Here l and text are lines, a is an arrival,
-- n its number, τ its time, u what follows a line; at and end are offsets in the log. Assumes nothing.
use Prim.Native.Nat.{ℕ, suc, ◌+◌, ◌≤◌, ◌<◌}
use native.Mathlib.Nat.{zero-add}
use native.Mathlib.Omega.{arith}
use mathlib.Core.Bool.{Bool, true, false, cond}
use mathlib.Core.Path.{◌≡◌, refl, sym, ap, ◌∙◌, subst}
use mathlib.Core.List.{List, [], ◌∷◌, ◌++◌, map, append_assoc, append-nil}
use borrow.Author.Tests.{eq-eqb, ne_eqb, eqb-true}
use lib.Dec.{eqb}
use lib.ListN.{length, get_or, drop, length-append}
use lib.Seq.{append_snoc, drop_at, drop-drop, drop-cons}
use Rattle.octets.specs.Text.{line_feed, lines}
use Rattle.octets.proofs.Text.{Plain, none, some, plain-append, plain-line, first-line}
use Rattle.rfc4737.specs.declared.Arrival.{Arrival}
use Rattle.std.specs.Prelude.{Option, None, Some}
use Rattle.textlog.specs.Form.{semicolon, number_most, Digits, one, more, by_comma, by_point, Time, whole, parted, Line, line, LineFits}
use Rattle.textlog.specs.Decode.{read, line_in, DecodedLine, malformed, arrived, read_whole, decode_line, decoded_lines}
use Rattle.textlog.specs.RoundTrip.{ExactLine}
use Rattle.textlog.specs.declared.reading.ReadLine.{ReadLine}
use Rattle.textlog.proofs.ReadHasForm.{sound}
use Rattle.textlog.proofs.FormIsRead.{complete}

-- ---- a line of the form is the first of the text that it begins

-- digits and times have no line feed
plain-digits : {ds : List ℕ} → Digits ds → Plain ds
plain-digits (one {o} h k) = some (ne_eqb o line_feed (λ e. omega arith)) none
plain-digits (more {o} h k d) = some (ne_eqb o line_feed (λ e. omega arith)) (plain-digits d)

plain-time : {ts : List ℕ} {τ : ℕ} → Time ts τ → Plain ts
plain-time (whole d) = plain-digits d
plain-time (parted d by_comma f few) = plain-append (plain-digits d) (some refl (plain-digits f))
plain-time (parted d by_point f few) = plain-append (plain-digits d) (some refl (plain-digits f))

-- a line of the form, with anything after it, is the first line
pub line_first : {text : List ℕ} {n τ : ℕ} → Line text n τ → (u : List ℕ) → lines (text ++ u) ≡ text ∷ lines u
line_first (line {ns} {ts} d t) u =
    let p : Plain (ns ++ (semicolon ∷ ts)) = plain-append (plain-digits d) (some refl (plain-time t)) in
    let e : ns ++ (semicolon ∷ (ts ++ (line_feed ∷ []))) ≡ (ns ++ (semicolon ∷ ts)) ++ (line_feed ∷ []) =
    sym (append_assoc ns (semicolon ∷ ts) (line_feed ∷ [])) in
    rw e (ap lines (append_snoc (ns ++ (semicolon ∷ ts)) line_feed u) ∙ plain-line p u)

-- ---- a line decodes exactly if it has the form, and its values fit

-- a line read to its end
read_whole-arrived : (n : ℕ) (r : Option ReadLine) {a : Arrival} → read_whole n r ≡ arrived a → r ≡ read a.number a.time n
read_whole-arrived n None h = cc
read_whole-arrived n (Some l) {a} h = go (eqb l.end n) refl h
  where
    go : (b : Bool) → eqb l.end n ≡ b → cond b (arrived (record { number = l.number; time = l.time })) malformed ≡ arrived a
        → read l.number l.time l.end ≡ read a.number a.time n
    go true q h =
        let s : record { number = l.number; time = l.time } ≡ a = cc in
        let p : l.end ≡ n = eqb-true l.end n q in
        rw (p, ← s)
    go false q h = cc

-- what has the form decodes
pub decodes : (l : List ℕ) (a : Arrival) → LineFits l a → decode_line l ≡ arrived a
unfolding decode_line
decodes l a f =
    let e : line_in 0 l ≡ read a.number a.time (0 + length l) =
    ap (line_in 0) (sym (append-nil l)) ∙ complete 0 [] f.form f.number f.time in
    ap (read_whole (length l)) e ∙ (rw (eq-eqb (0 + length l) (length l) (zero-add (length l))))

-- what decodes has the form
pub decoded : (l : List ℕ) (a : Arrival) → decode_line l ≡ arrived a → LineFits l a
unfolding decode_line
decoded l a h =
    let s = sound 0 l (read_whole-arrived (length l) (line_in 0 l) h) in
    let p : length s.text ≡ length l = omega (arith, s.ends) in
    let q : s.rest ≡ [] = empty s.rest (omega (arith, ap length s.whole, length-append s.text s.rest)) in
    let t : s.text ≡ l = sym (s.whole ∙ ap (λ (x : List ℕ). s.text ++ x) q ∙ append-nil s.text) in
    record { form = subst (λ (x : List ℕ). Line x a.number a.time) t s.form; number = s.number; time = s.time }
  where
    empty : (x : List ℕ) → length x ≡ 0 → x ≡ []
    empty [] e = refl
    empty (o ∷ x) e = absurd (omega arith)

pub exact-line : ExactLine
exact-line = λ l a. (decoded l a, decodes l a)

-- ---- what is read at a place of a log, and the first line from there on

-- the lines of a text by its first line and the others, decoded
decoded-first : (t : List ℕ) {text : List ℕ} {others : List (List ℕ)} {d : DecodedLine} → lines t ≡ text ∷ others → decode_line text ≡ d
    → decoded_lines t ≡ d ∷ map decode_line others
decoded-first t {others = others} l g = ap (map decode_line) l ∙ ap (λ (x : DecodedLine). x ∷ map decode_line others) g

-- a line is read there: it is the first, and the others are those of what follows
pub record FirstLine (log : List ℕ) (at n τ end : ℕ) : Type 0 where
  pub lead : decoded_lines (drop at log) ≡ arrived (record { number = n; time = τ }) ∷ decoded_lines (drop end log)
  pub onward : at < end
  pub number : n ≤ number_most

pub line_read : (log : List ℕ) (at : ℕ) {n τ end : ℕ} → line_in at (drop at log) ≡ read n τ end → FirstLine log at n τ end
line_read log at {n} {τ} {end} h =
    let s = sound at (drop at log) h in
    let d : drop end log ≡ s.rest =
    ap (λ (k : ℕ). drop k log) s.ends
    ∙ sym (drop-drop (length s.text) at log)
    ∙ ap (drop (length s.text)) s.whole
    ∙ drop_at s.text s.rest (length s.text) refl in
    record {
      lead =
          decoded-first (drop at log) (ap lines s.whole ∙ line_first s.form s.rest
          ∙ ap (λ (x : List ℕ). s.text ∷ lines x) (sym d))
          (decodes s.text (record { number = n; time = τ }) (record { form = s.form; number = s.number; time = s.time }));
      onward = omega (arith, s.ends, long s.form);
      number = s.number;
    }
  where
    long : {l : List ℕ} {m υ : ℕ} → Line l m υ → 0 < length l
    long (line {ns} {ts} d t) = omega (arith, length-append ns (semicolon ∷ (ts ++ (line_feed ∷ []))))

-- none is: the first line is malformed
pub record MalformedLine (log : List ℕ) (at : ℕ) : Type 0 where
  pub others : List DecodedLine
  pub lead : decoded_lines (drop at log) ≡ malformed ∷ others

pub line-unread : (log : List ℕ) (at : ℕ) → at < length log → line_in at (drop at log) ≡ None → MalformedLine log at
line-unread log at h e =
    let f = first-line (get_or log at 0) (drop (suc at) log) in
    let text : List ℕ = get_or log at 0 ∷ f.text in
    let w : drop at log ≡ text ++ f.rest = drop-cons log at 0 h ∙ ap (λ (x : List ℕ). get_or log at 0 ∷ x) f.split in
    go text f.rest (lines f.rest) w (ap lines (drop-cons log at 0 h) ∙ f.lead) (decode_line text) refl
  where
    go : (text rest : List ℕ) (others : List (List ℕ)) → drop at log ≡ text ++ rest → lines (drop at log) ≡ text ∷ others
        → (d : DecodedLine) → decode_line text ≡ d → MalformedLine log at
    go text rest others w l malformed g = record { others = map decode_line others; lead = decoded-first (drop at log) l g }
    go text rest others w l (arrived a) g =
        let f = decoded text a g in
        let r : line_in at (drop at log) ≡ read a.number a.time (at + length text) =
        ap (line_in at) w ∙ complete at rest f.form f.number f.time in
        absurd (let z : ◌≡◌ {A = ℕ} 0 1 = cc in omega arith)
