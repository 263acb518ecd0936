-- `capi::refusals_calls::narrow` meets its contract: a number above 18 has no words and is refused, as 0 is (`past`). Assumes nothing.
use Rattle.std.proofs.Common.{◌≡◌, ℕ, ◌<◌, ◌≤◌, [], length, arith, refl, sym, le-leb}
use Rattle.std.proofs.lemmas.Bool.{lt-leb}
use lib.ListN.{get_or-eq_default}
use Rattle.rfc4737.specs.Refusals.{outside}
use Rattle.refusals.specs.Words.{all_words, words_of, asked_refusal}
use Rattle.capi.proofs.refusals_calls.narrow.Goals as goal

past : (n : ℕ) → 18 < n → (asked_refusal 0 ≡ asked_refusal n) × (words_of 0 ≡ words_of n)
unfolding asked_refusal outside words_of
past n h =
    let long : length all_words ≤ n = omega (arith, h) in
    (rw (le-leb 1 n (omega (arith, h)), lt-leb n 18 h) refl, sym (get_or-eq_default all_words [] long))

pub returns-then-refusal-gt-MAX_REFUSAL : goal.returns-then-refusal-gt-MAX_REFUSAL
returns-then-refusal-gt-MAX_REFUSAL c = past _ c.if-refusal-gt-MAX_REFUSAL.true
