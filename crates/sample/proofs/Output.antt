-- The answer of a call that writes, case by case: `own` is its own refusal, `os` the octets to write, `out` and `out'` the caller's buffer
-- before and after it. In each case the first refusal is known, `own` before 8, and with it whether all octets are written or none. An
-- answer without a refusal says that `own` is 0 and that the octets stand at the start (`own-none`, `output-read`). r is a refusal, n the
-- length returned, w that this is the call's answer. Assumes nothing.
use Prim.Native.Nat.{ℕ, zero, suc, ◌≤◌, ◌<◌}
use native.Mathlib.Omega.{arith}
use mathlib.Core.Path.{◌≡◌, refl, sym, ap, ap₂, ◌∙◌}
use mathlib.Core.List.{List, [], ◌∷◌}
use borrow.Author.Tests.{le-ltb, lt-ltb, ltb-false}
use lib.Dec.{ltb}
use lib.ListN.{length, take}
use Rattle.octets.specs.Memory.{over}
use Rattle.octets.proofs.Memory.{over-read}
use Rattle.rfc4737.specs.Refusals.{refusal_if, first_refusal, output_short}
use Rattle.rfc4737.proofs.Due.{first-none, first_one, case-none}
use Rattle.sample.specs.Output.{if_none, Output}
use Rattle.sample.specs.declared.WriteAnswer.{WriteAnswer}

-- ---- the refusal

module _ (own : ℕ) (os : List ℕ) (room : ℕ) where
  -- the refusal, with `room` octets lent
  abbrev pub refusal_into : ℕ
  refusal_into = first_refusal (own ∷ refusal_if (ltb room (length os)) output_short ∷ [])

  -- its own
  pub refusal-own : (r : ℕ) → r ≡ own → (r ≡ 0 → ⊥) → r ≡ refusal_into
  refusal-own zero e z = absurd (z refl)
  refusal-own (suc r) e z = ap (λ (x : ℕ). first_refusal (x ∷ refusal_if (ltb room (length os)) output_short ∷ [])) e

  -- there is no room
  pub refusal-short : own ≡ 0 → room < length os → output_short ≡ refusal_into
  refusal-short e h = sym (simp (e, lt-ltb room (length os) h))

  -- none
  pub refusal-none : own ≡ 0 → length os ≤ room → 0 ≡ refusal_into
  refusal-none e h = sym (simp (e, le-ltb room (length os) h))

  -- where there is none, it has none of its own, and the octets fit
  pub none-refused : refusal_into ≡ 0 → (own ≡ 0) × (length os ≤ room)
  none-refused e =
      let p = first-none own (refusal_if (ltb room (length os)) output_short ∷ []) e in
      (p.0, ltb-false room (length os) (case-none (ltb room (length os)) output_short (omega arith) (sym (first_one _) ∙ p.1)))

-- ---- the answer

module _ (own : ℕ) (os out : List ℕ) where
  -- any refusal: nothing is written
  pub nothing_written : (r : ℕ) → r ≡ refusal_into own os (length out) → (r ≡ 0 → ⊥)
      → Output own os out (record { refusal = r; length = 0 }) out
  nothing_written zero e z = absurd (z refl)
  nothing_written (suc r) e z = record { refusal = e; octets = refl; filled = refl }

  -- no refusal: all are written
  pub whole-written : (r : ℕ) {n : ℕ} {out' : List ℕ} → r ≡ refusal_into own os (length out) → r ≡ 0 → n ≡ length os
      → (n ≤ length out → out' ≡ over os out)
      → Output own os out (record { refusal = r; length = n }) out'
  whole-written zero e z m f =
      let h = (none-refused own os (length out) (sym e)).1 in
      record { refusal = e; octets = m; filled = f (omega arith) }
  whole-written (suc r) e z m f = absurd (omega arith)

  -- its own
  pub output-refused : (r : ℕ) → r ≡ own → (r ≡ 0 → ⊥) → Output own os out (record { refusal = r; length = 0 }) out
  output-refused r e z = nothing_written r (refusal-own own os (length out) r e z) z

  -- there is no room
  pub output-short : own ≡ 0 → length out < length os → Output own os out (record { refusal = output_short; length = 0 }) out
  output-short e h = record { refusal = refusal-short own os (length out) e h; octets = refl; filled = refl }

  -- the octets are written
  pub output-written : {n : ℕ} {out' : List ℕ} → own ≡ 0 → length os ≤ length out → n ≡ length os → out' ≡ over os out
      → Output own os out (record { refusal = 0; length = n }) out'
  output-written e h m f = record { refusal = refusal-none own os (length out) e h; octets = m; filled = f }

  module _ {answer : WriteAnswer} {out' : List ℕ} (w : Output own os out answer out') where
    -- where nothing was refused, nothing of its own was
    pub own-none : answer.refusal ≡ 0 → own ≡ 0
    own-none z = (none-refused own os (length out) (sym w.refusal ∙ z)).0

    -- and the octets stand at the start
    pub output-read : answer.refusal ≡ 0 → take answer.length out' ≡ os
    output-read z =
        ap₂ take (w.octets ∙ ap (λ (r : ℕ). if_none r (length os) 0) z) (w.filled ∙ ap (λ (r : ℕ). if_none r (over os out) out) z)
        ∙ over-read os out

    -- where nothing of its own is refused and there is room, they are written
    pub output-whole : own ≡ 0 → length os ≤ length out → (answer ≡ record { refusal = 0; length = length os }) × (out' ≡ over os out)
    output-whole e h =
        let p = w.refusal ∙ sym (refusal-none own os (length out) e h) in
        let q = w.octets ∙ ap (λ (r : ℕ). if_none r (length os) 0) p in
        ((λ i. record { refusal = p i; length = q i }), w.filled ∙ ap (λ (r : ℕ). if_none r (over os out) out) p)
