-- A text by the digits with which it begins, the octet after them, and what follows that. A text may be made of digits ds, an octet o that
-- is none, and u. Then the count stops at o, by induction on the digits (`begins-with`). Any text t begins with the digits that are
-- counted, by induction with each octet a digit or not (`digits-lead`). Where the octet after them is not 0 it stands in the text, as past
-- the end 0 is read (`present`), so t is these three parts (`begins`). Assumes nothing.
use Prim.Native.Nat.{ℕ, zero, suc, ◌+◌, ◌≤◌, ◌<◌}
use native.Mathlib.Numerals.{add-one}
use native.Mathlib.Omega.{arith}
use mathlib.Core.Bool.{Bool, true, false, cond, ◌||◌, true≢false}
use mathlib.Core.Path.{◌≡◌, refl, sym, ap, ◌∙◌, subst}
use mathlib.Core.List.{List, [], ◌∷◌, ◌++◌}
use borrow.Author.Tests.{leb-true, leb-false, eqb-true}
use lib.Dec.{leb, eqb}
use lib.ListN.{length, get_or, take, drop, length-append, get_or-eq_default}
use lib.Seq.{split_at, take_at, get_or_at, drop_at, length-take-le, append_snoc}
use Rattle.octets.specs.Text.{line_feed}
use Rattle.decimal.specs.Reading.{digit, digit_count, leading}
use Rattle.decimal.proofs.Leading.{is_digit, digit-bounds}
use Rattle.textlog.specs.Form.{semicolon, comma, point, Digits, one, more, DecimalMark, by_comma, by_point}
use Rattle.textlog.specs.Decode.{is_decimal_mark, octet_after, text_after}

-- ---- octets that are no digits

pub feed-no-digit : digit line_feed ≡ false
unfolding digit
feed-no-digit = refl

pub semicolon-no-digit : digit semicolon ≡ false
unfolding digit
semicolon-no-digit = refl

-- what passes the test for a mark is one
pub is-mark : (o : ℕ) → is_decimal_mark o ≡ true → DecimalMark o
unfolding is_decimal_mark
is-mark o e = go (eqb o comma) (eqb o point) refl refl e
  where
    go : (a b : Bool) → eqb o comma ≡ a → eqb o point ≡ b → (a || b) ≡ true → DecimalMark o
    go true b p q e = subst DecimalMark (sym (eqb-true o comma p)) by_comma
    go false true p q e = subst DecimalMark (sym (eqb-true o point q)) by_point
    go false false p q e = absurd (true≢false (sym e))

-- a mark passes the test, and is no digit, no line feed and not 0
pub record MarkPasses (o : ℕ) : Type 0 where
  pub passes : is_decimal_mark o ≡ true
  pub no_digit : digit o ≡ false
  pub no_feed : eqb o line_feed ≡ false
  pub some : 0 < o

pub mark-passes : {o : ℕ} → DecimalMark o → MarkPasses o
unfolding is_decimal_mark digit
mark-passes by_comma = record { passes = refl; no_digit = refl; no_feed = refl; some = omega arith }
mark-passes by_point = record { passes = refl; no_digit = refl; no_feed = refl; some = omega arith }

-- ---- a text made of digits, another octet, and more

-- there is a digit
pub some-digits : {ds : List ℕ} → Digits ds → 0 < length ds
some-digits (one h k) = omega arith
some-digits (more h k d) = omega arith

-- how many digits it begins with
count-met : {ds : List ℕ} → Digits ds → (x : ℕ) (u : List ℕ) → digit x ≡ false → digit_count (ds ++ (x ∷ u)) ≡ length ds
unfolding digit_count
count-met (one {o} h k) x u e = rw (is_digit {o = o} (h, k), e)
count-met (more {o} h k d) x u e = rw (is_digit {o = o} (h, k)) (ap suc (count-met d x u e))

-- its digits, the octet after them, and what follows
pub record BeginsWith (t ds : List ℕ) (o : ℕ) (u : List ℕ) : Type 0 where
  pub count : digit_count t ≡ length ds
  pub digits : leading t ≡ ds
  pub octet : octet_after t ≡ o
  pub rest : text_after t ≡ u

pub begins-with : {ds : List ℕ} → Digits ds → (o : ℕ) (u : List ℕ) → digit o ≡ false → BeginsWith (ds ++ (o ∷ u)) ds o u
begins-with {ds} d o u e =
    let n : length ds ≡ digit_count (ds ++ (o ∷ u)) = sym (count-met d o u e) in
    let m : length (ds ++ (o ∷ [])) ≡ digit_count (ds ++ (o ∷ u)) + 1 =
    length-append ds (o ∷ []) ∙ ap (λ (k : ℕ). k + 1) n in
    record {
      count = sym n;
      digits = take_at ds (o ∷ u) _ n;
      octet = get_or_at ds o u 0 _ n;
      rest = ap (λ (x : List ℕ). drop (digit_count (ds ++ (o ∷ u)) + 1) x) (sym (append_snoc ds o u))
          ∙ drop_at (ds ++ (o ∷ [])) u _ m;
    }

-- ---- any text

-- the digits with which it begins are digits
pub digits-lead : (t : List ℕ) → 0 < digit_count t → Digits (leading t)
unfolding digit_count
digits-lead [] h = absurd (omega arith)
digits-lead (o ∷ t) h = go (digits-lead t) (digit o) refl h
  where
    rest : (n : ℕ) → (0 < n → Digits (take n t)) → (48 ≤ o) × (o ≤ 57) → Digits (o ∷ take n t)
    rest zero d b = one b.0 b.1
    rest (suc n) d b = more b.0 b.1 (d (omega arith))

    go : (0 < digit_count t → Digits (leading t)) → (b : Bool) → digit o ≡ b → 0 < cond b (suc (digit_count t)) 0
        → Digits (take (cond b (suc (digit_count t)) 0) (o ∷ t))
    go d true e h = rest (digit_count t) d (digit-bounds o e)
    go d false e h = absurd (omega arith)

-- an octet other than 0 stands in the text
pub present : (l : List ℕ) (i : ℕ) → 0 < get_or l i 0 → i < length l
present l i h = go (leb (length l) i) refl
  where
    go : (b : Bool) → leb (length l) i ≡ b → i < length l
    go true e = absurd (omega (arith, get_or-eq_default l 0 (leb-true (length l) i e)))
    go false e = leb-false (length l) i e

-- a mark stands in the text
pub mark-present : (l : List ℕ) (i : ℕ) → is_decimal_mark (get_or l i 0) ≡ true → i < length l
mark-present l i m = present l i (mark-passes (is-mark (get_or l i 0) m)).some

-- it is its digits, the octet after them, which is not 0, and what follows
pub record Begins (t : List ℕ) (o : ℕ) : Type 0 where
  pub text : t ≡ leading t ++ (o ∷ text_after t)
  pub long : length (leading t) ≡ digit_count t

pub begins : (t : List ℕ) (o : ℕ) → octet_after t ≡ o → 0 < o → Begins t o
begins t o e h =
    let p : digit_count t < length t = present t (digit_count t) (rw e h) in
    let q : digit_count t ≤ length t = omega arith in
    record {
      text = split_at t (digit_count t) 0 p
          ∙ ap (λ (x : ℕ). leading t ++ (x ∷ drop (suc (digit_count t)) t)) e
          ∙ ap (λ (k : ℕ). leading t ++ (o ∷ drop k t)) (sym (add-one (digit_count t)));
      long = length-take-le (digit_count t) t q;
    }
