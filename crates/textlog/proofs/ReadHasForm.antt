-- What is read of a text t has the form of a line, and fits. Each test on the way was passed (`kept`, `passed`), so the digits with which t
-- begins, the octet after them and what follows are the parts of the form. So it goes for the decimals (`fraction_sound`), for a time, with
-- decimals or without (`time-sound`), and for a line (`sound`). The records `FractionStands`, `TimeStands` and `LineStands` say which
-- octets these are, what they give and where they end.
-- Here at is the offset of t in the log; n and τ are the number and the time that are read, e or end where the line ends, w the
-- milliseconds, ds the decimals, ts a time. Assumes nothing.
use Prim.Native.Nat.{ℕ, suc, ◌+◌, ◌*◌, ◌≤◌}
use native.Mathlib.Omega.{arith}
use mathlib.Core.Bool.{Bool, true, false, cond}
use mathlib.Core.Path.{◌≡◌, refl, sym, ap, ◌∙◌, subst}
use mathlib.Core.List.{List, [], ◌∷◌, ◌++◌, append_assoc}
use borrow.Author.Tests.{leb-true, ltb-false, eqb-true, eqb-false}
use lib.Dec.{leb, ltb, eqb}
use lib.ListN.{length, length-append}
use lib.Seq.{append_snoc}
use Rattle.octets.specs.Text.{line_feed}
use Rattle.decimal.specs.Reading.{digit_count, leading, leading_value}
use Rattle.rfc4737.specs.Refusals.{outside}
use Rattle.rfc4737.proofs.Due.{between}
use Rattle.std.specs.Prelude.{Option, None}
use Rattle.textlog.specs.Form.{semicolon, number_most, time_most, Digits, DecimalMark, thousandths, Time, whole, parted, Line, line}
use Rattle.textlog.specs.Decode.{read, is_decimal_mark, octet_after, text_after, in_range, fraction_in, time_in, line_in}
use Rattle.textlog.specs.declared.reading.ReadLine.{ReadLine}
use Rattle.textlog.proofs.LeadingDigits.{digits-lead, begins, is-mark, mark-passes}

-- ---- tests passed on the way to a line

-- one that must not hold
kept : (b : Bool) {r : Option ReadLine} {n τ e : ℕ} → cond b None r ≡ read n τ e → (b ≡ false) × (r ≡ read n τ e)
kept true h = cc
kept false h = (refl, h)

-- one that must hold
passed : (b : Bool) {r : Option ReadLine} {n τ e : ℕ} → cond b r None ≡ read n τ e → (b ≡ true) × (r ≡ read n τ e)
passed true h = (refl, h)
passed false h = cc

-- a time in range, and the rest of the line
record InRangeLine (n τ e n₂ τ₂ e₂ : ℕ) : Type 0 where
  pub number : n ≡ n₂
  pub time : τ ≡ τ₂
  pub end : e ≡ e₂
  pub fits : τ₂ ≤ time_most

range-sound : (n τ e : ℕ) {n₂ τ₂ e₂ : ℕ} → in_range n τ e ≡ read n₂ τ₂ e₂ → InRangeLine n τ e n₂ τ₂ e₂
unfolding in_range
range-sound n τ e {n₂} {τ₂} {e₂} h =
    let p = passed (leb τ time_most) h in
    let q : read n τ e ≡ read n₂ τ₂ e₂ = p.1 in
    let l : ◌≡◌ {A = ReadLine} (record { number = n; time = τ; end = e }) (record { number = n₂; time = τ₂; end = e₂ }) = cc in
    let s = ap (λ (x : ReadLine). x.time) l in
    record {
      number = ap (λ (x : ReadLine). x.number) l;
      time = s;
      end = ap (λ (x : ReadLine). x.end) l;
      fits = omega (arith, s, leb-true τ time_most p.0);
    }

-- ---- decimals, a time and a line at the start of a text

-- decimals and a line feed stand at the start of a text, at the place `at`
record FractionStands (number w at : ℕ) (t : List ℕ) (n τ end : ℕ) : Type 0 where
  pub ds : List ℕ
  pub rest : List ℕ
  pub text : t ≡ ds ++ (line_feed ∷ rest)
  pub form : Digits ds
  pub few : length ds ≤ 3
  pub value : 1000 * w + thousandths ds ≡ τ
  pub same : number ≡ n
  pub ends : end ≡ at + length ds + 1
  pub fits : τ ≤ time_most

fraction_sound : (number w at : ℕ) (t : List ℕ) {n τ e : ℕ} → fraction_in number w at t ≡ read n τ e
    → FractionStands number w at t n τ e
unfolding fraction_in
fraction_sound number w at t h =
    let p = kept (outside 1 3 (digit_count t)) h in
    let q = passed (eqb (octet_after t) line_feed) p.1 in
    let b = between 1 3 (digit_count t) p.0 in
    let g = begins t line_feed (eqb-true _ _ q.0) (omega arith) in
    let s = range-sound number _ _ q.1 in
    record {
      ds = leading t;
      rest = text_after t;
      text = g.text;
      form = digits-lead t (omega arith);
      few = rw g.long b.1;
      value = s.time;
      same = s.number;
      ends = sym s.end ∙ ap (λ (k : ℕ). at + k + 1) (sym g.long);
      fits = s.fits;
    }

-- a time and a line feed do
record TimeStands (number at : ℕ) (t : List ℕ) (n τ end : ℕ) : Type 0 where
  pub ts : List ℕ
  pub rest : List ℕ
  pub text : t ≡ ts ++ (line_feed ∷ rest)
  pub form : Time ts τ
  pub same : number ≡ n
  pub ends : end ≡ at + length ts + 1
  pub fits : τ ≤ time_most

time-sound : (number at : ℕ) (t : List ℕ) {n τ e : ℕ} → time_in number at t ≡ read n τ e → TimeStands number at t n τ e
unfolding time_in
time-sound number at t {n} {τ} {e} h =
    let p = kept (eqb (digit_count t) 0) h in
    go (digits-lead t (omega (arith, eqb-false (digit_count t) 0 p.0))) (eqb (octet_after t) line_feed) refl p.1
  where
    -- a line feed follows the digits
    plain : Digits (leading t) → octet_after t ≡ line_feed → InRangeLine number (1000 * leading_value t) (at + digit_count t + 1) n τ e
        → TimeStands number at t n τ e
    plain d o s =
        let g = begins t line_feed o (omega arith) in
        record {
          ts = leading t;
          rest = text_after t;
          text = g.text;
          form = subst (λ (x : ℕ). Time (leading t) x) s.time (whole d);
          same = s.number;
          ends = sym s.end ∙ ap (λ (k : ℕ). at + k + 1) (sym g.long);
          fits = s.fits;
        }

    -- a mark and decimals do
    marked : Digits (leading t) → DecimalMark (octet_after t)
        → FractionStands number (leading_value t) (at + digit_count t + 1) (text_after t) n τ e
        → TimeStands number at t n τ e
    marked d m f =
        let g = begins t (octet_after t) refl (mark-passes m).some in
        let l : length (leading t ++ (octet_after t ∷ f.ds)) ≡ digit_count t + suc (length f.ds) =
        length-append (leading t) (octet_after t ∷ f.ds) ∙ ap (λ (k : ℕ). k + suc (length f.ds)) g.long in
        record {
          ts = leading t ++ (octet_after t ∷ f.ds);
          rest = f.rest;
          text = g.text
              ∙ ap (λ (x : List ℕ). leading t ++ (octet_after t ∷ x)) f.text
              ∙ sym (append_assoc (leading t) (octet_after t ∷ f.ds) (line_feed ∷ f.rest));
          form = subst (λ (x : ℕ). Time (leading t ++ (octet_after t ∷ f.ds)) x) f.value (parted d m f.form f.few);
          same = f.same;
          ends = omega (arith, f.ends);
          fits = f.fits;
        }

    go : Digits (leading t) → (b : Bool) → eqb (octet_after t) line_feed ≡ b
        → cond b (in_range number (1000 * leading_value t) (at + digit_count t + 1))
        (cond (is_decimal_mark (octet_after t)) (fraction_in number (leading_value t) (at + digit_count t + 1) (text_after t)) None)
        ≡ read n τ e
        → TimeStands number at t n τ e
    go d true o h = plain d (eqb-true _ _ o) (range-sound number _ _ h)
    go d false o h =
        let p = passed (is_decimal_mark (octet_after t)) h in
        marked d (is-mark (octet_after t) p.0) (fraction_sound number _ _ (text_after t) p.1)

-- a line stands at the start of a text, at the place `at`, and ends before `end`
pub record LineStands (at : ℕ) (t : List ℕ) (n τ end : ℕ) : Type 0 where
  pub text : List ℕ
  pub rest : List ℕ
  pub whole : t ≡ text ++ rest
  pub form : Line text n τ
  pub ends : end ≡ at + length text
  pub number : n ≤ number_most
  pub time : τ ≤ time_most

pub sound : (at : ℕ) (t : List ℕ) {n τ e : ℕ} → line_in at t ≡ read n τ e → LineStands at t n τ e
unfolding line_in
sound at t {n} {τ} {e} h =
    let p = kept (eqb (digit_count t) 0) h in
    let q = kept (ltb number_most (leading_value t)) p.1 in
    let r = passed (eqb (octet_after t) semicolon) q.1 in
    let g = begins t semicolon (eqb-true _ _ r.0) (omega arith) in
    let s = time-sound (leading_value t) (at + digit_count t + 1) (text_after t) r.1 in
    let d = digits-lead t (omega (arith, eqb-false (digit_count t) 0 p.0)) in
    let l : length (leading t ++ (semicolon ∷ (s.ts ++ (line_feed ∷ [])))) ≡ digit_count t + suc (length s.ts + 1) =
    length-append (leading t) _
    ∙ ap (λ (k : ℕ). k + suc (length (s.ts ++ (line_feed ∷ [])))) g.long
    ∙ ap (λ (k : ℕ). digit_count t + suc k) (length-append s.ts (line_feed ∷ [])) in
    record {
      text = leading t ++ (semicolon ∷ (s.ts ++ (line_feed ∷ [])));
      rest = s.rest;
      whole = g.text
          ∙ ap (λ (x : List ℕ). leading t ++ (semicolon ∷ x)) (s.text ∙ sym (append_snoc s.ts line_feed s.rest))
          ∙ sym (append_assoc (leading t) (semicolon ∷ (s.ts ++ (line_feed ∷ []))) s.rest);
      form = subst (λ (x : ℕ). Line (leading t ++ (semicolon ∷ (s.ts ++ (line_feed ∷ [])))) x τ) s.same (line d s.form);
      ends = omega (arith, s.ends);
      number = omega (arith, ltb-false number_most (leading_value t) q.0, s.same);
      time = s.fits;
    }
