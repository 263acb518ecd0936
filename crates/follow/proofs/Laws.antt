-- Laws of the text of a line. The octets written for a refusal are its words, or none (`words-read`). The caller's buffer has room for the
-- text or not (`line-short`, `line-written`). r is a receiver, l a line, read the arrival read from it, s the step, out and out' the
-- caller's buffer before and after the call. Assumes nothing.
use Prim.Native.Nat.{ℕ, ◌+◌, ◌≤◌, ◌<◌}
use native.Mathlib.Omega.{arith}
use mathlib.Core.Path.{◌≡◌, refl, sym, ap, subst, ◌∙◌}
use mathlib.Core.Bool.{Bool, true, false, true≢false, not, ◌&&◌}
use mathlib.Core.List.{List, [], ◌∷◌}
use borrow.Author.Tests.{lt-ltb, le-ltb, leb-false, ltb-true, ltb-false}
use lib.Dec.{leb, ltb}
use lib.ListN.{length, get_or, take, get_or-eq_default}
use Rattle.octets.specs.Memory.{over}
use Rattle.octets.proofs.Memory.{over_first, put-none, put-over}
use Rattle.rfc4737.specs.Refusals.{outside, refusal_if, first_refusal, asked_outside, output_short}
use Rattle.sample.specs.declared.WriteAnswer.{WriteAnswer}
use Rattle.sample.specs.Output.{if_none, Output}
use Rattle.sample.proofs.Output.{refusal-short, none-refused, output-whole}
use Rattle.refusals.specs.Words.{all_words, words_of, asked_refusal, WordsFit}
use Rattle.receiver.specs.declared.Receiver.{Receiver}
use Rattle.receiver.specs.declared.StepAnswer.{StepAnswer}
use Rattle.textlog.specs.declared.LogLine.{LogLine}
use Rattle.follow.specs.Text.{line_text, line_octets}
use Rattle.follow.specs.Follow.{followed, followed_text, follow_answer, FollowedTo}

-- ---- the words of a refusal

-- a number that is no refusal has no words
words-none : (n : ℕ) → outside 1 18 n ≡ true → words_of n ≡ []
unfolding outside words_of
words-none n h = go (leb 1 n) refl (leb n 18) refl
  where
    go : (s : Bool) → leb 1 n ≡ s → (t : Bool) → leb n 18 ≡ t → get_or all_words n [] ≡ []
    go false e t f =
        let p = leb-false 1 n e in
        let z : n ≡ 0 = omega arith in
        rw z refl
    go true e true f =
        let k : not (leb 1 n && leb n 18) ≡ false = rw (e, f) refl in
        absurd (true≢false (sym h ∙ k))
    go true e false f =
        let p = leb-false n 18 f in
        let q : 19 ≤ n = omega arith in
        get_or-eq_default all_words [] q

-- and nothing is written of it
words-refused : (n : ℕ) (old new : List ℕ) (answer : WriteAnswer) → asked_refusal n ≡ 9
    → Output (asked_refusal n) (words_of n) old answer new → answer.length ≡ 0
words-refused n old new answer e w =
    let h : answer.refusal ≡ 9 =
    w.refusal ∙ ap (λ (own : ℕ). first_refusal (own ∷ refusal_if (ltb (length old) (length (words_of n))) output_short ∷ [])) e in
    w.octets ∙ ap (λ (refusal : ℕ). if_none refusal (length (words_of n)) 0) h

pub words-read : (n : ℕ) {old new : List ℕ} {answer : WriteAnswer} → Output (asked_refusal n) (words_of n) old answer new → WordsFit
    → length old ≡ 129
    → (answer.length ≤ 128) × ((answer.length ≤ length new) × (take answer.length new ≡ words_of n))
unfolding asked_refusal
words-read n {old} {new} {answer} w fit room = go (outside 1 18 n) refl
  where
    go : (t : Bool) → outside 1 18 n ≡ t → (answer.length ≤ 128)
        × ((answer.length ≤ length new) × (take answer.length new ≡ words_of n))
    go false e =
        let own : refusal_if (outside 1 18 n) asked_outside ≡ 0 = rw e refl in
        let most = fit.most n in
        let h : length (words_of n) ≤ length old = omega (arith, most, room) in
        let whole = output-whole (asked_refusal n) (words_of n) old w own h in
        let count : answer.length ≡ length (words_of n) = ap (λ (a : WriteAnswer). a.length) whole.0 in
        (omega (arith, count, most), over_first (words_of n) old count whole.1)
    go true e =
        let own : refusal_if (outside 1 18 n) asked_outside ≡ 9 = rw e refl in
        let none : answer.length ≡ 0 = words-refused n old new answer own w in
        (omega (arith, none), (omega (arith, none), rw (none, words-none n e) refl))

-- ---- the calls

module _ (r : Receiver) {l read : LogLine} {s : StepAnswer} {out out' : List ℕ} {answer : WriteAnswer} (e : read ≡ l)
    (f : s ≡ followed r read) (w : Output 0 (line_text read s.outcome) out answer out') where
  -- the step and the text are the line's
  step_is : s ≡ followed r l
  step_is = f ∙ ap (followed r) e

  text-is : line_text read s.outcome ≡ followed_text r l
  unfolding followed_text
  text-is = rw (step_is, e) refl

  text_of : Output 0 (followed_text r l) out answer out'
  text_of = subst (λ (xs : List ℕ). Output 0 xs out answer out') text-is w

  pub line-room : length (line_text read s.outcome) ≤ line_octets → length (followed_text r l) ≤ line_octets
  line-room h = omega (arith, ap length text-is, h)

  -- no room: the text is too long
  too_long : length out < length (followed_text r l)
      → FollowedTo r l out (record { refusal = answer.refusal; length = 0; state = r }) out'
  unfolding follow_answer
  too_long h =
      let p : answer.refusal ≡ 8 = text_of.refusal ∙ sym (refusal-short 0 (followed_text r l) (length out) refl h) in
      let q : out' ≡ out = text_of.filled ∙ ap (λ (n : ℕ). if_none n (over (followed_text r l) out) out) p in
      record {
        answered = rw (lt-ltb (length out) (length (followed_text r l)) h, p) refl;
        filled = q ∙ sym (put-none 0 (followed_text r l) out (omega (arith, h)));
      }

  -- room
  fits : length (followed_text r l) ≤ length out
      → FollowedTo r l out (record { refusal = s.outcome.refusal; length = answer.length; state = s.state }) out'
  unfolding follow_answer
  fits h =
      let whole = output-whole 0 (followed_text r l) out text_of refl h in
      let k : 0 + length (followed_text r l) ≤ length out = omega (arith, h) in
      let n : answer.length ≡ length (followed_text r l) = ap (λ (a : WriteAnswer). a.length) whole.0 in
      record {
        answered = rw (le-ltb (length out) (length (followed_text r l)) h, n, step_is) refl;
        filled = whole.1 ∙ sym (put-over 0 [] (followed_text r l) out refl k);
      }

  pub line-short : (answer.refusal ≡ 0 → ⊥) → FollowedTo r l out (record { refusal = answer.refusal; length = 0; state = r }) out'
  line-short z = go (ltb (length out) (length (followed_text r l))) refl
    where
      go : (t : Bool) → ltb (length out) (length (followed_text r l)) ≡ t
          → FollowedTo r l out (record { refusal = answer.refusal; length = 0; state = r }) out'
      go true h = too_long (ltb-true (length out) (length (followed_text r l)) h)
      go false h =
          let whole = output-whole 0 (followed_text r l) out text_of refl (ltb-false (length out) (length (followed_text r l)) h) in
          absurd (z (ap (λ (a : WriteAnswer). a.refusal) whole.0))

  pub line-written : answer.refusal ≡ 0
      → FollowedTo r l out (record { refusal = s.outcome.refusal; length = answer.length; state = s.state }) out'
  line-written z = fits (none-refused 0 (followed_text r l) (length out) (sym text_of.refusal ∙ z)).1
