-- The text of an input. A part of an accepted input is that of its table (`shown-accepted`). Part 0 of a refused input is the line of its
-- refusal (`shown-line`), any other part is empty (`shown-empty`). The 18 parts are the whole text (`shown-join`). d is the decoded
-- input, r its refusal. Assumes nothing.
use Prim.Native.Nat.{ℕ, zero, suc, ◌≤◌}
use native.Mathlib.Omega.{arith}
use mathlib.Core.Path.{◌≡◌, refl, sym, ap, ◌∙◌}
use mathlib.Core.Bool.{Bool}
use mathlib.Core.List.{List, [], ◌++◌, append-nil}
use borrow.Author.Tests.{eq-eqb, ne_eqb}
use lib.ListN.{length}
use Rattle.octets.specs.Memory.{over}
use Rattle.listing.specs.Lines.{refused_line}
use Rattle.sample.specs.declared.WriteAnswer.{WriteAnswer}
use Rattle.sample.specs.Format.{Sample}
use Rattle.sample.specs.Decode.{Decoded, refused, accepted, decoded_refusal}
use Rattle.sample.proofs.Output.{output-whole}
use Rattle.table.specs.Text.{part_text, parts_to, PartsJoin, PartTo}
use Rattle.cmd_table.specs.Shown.{shown_text, shown_part, shown_to, ShownJoin, Shown}

-- ---- a part

part-accepted : (json : Bool) (d : Decoded) (part : ℕ) {s : Sample} → d ≡ accepted s → part_text json d part ≡ shown_part json d part
unfolding shown_part
part-accepted json d part e = ap (λ (d : Decoded). part_text json d part) e ∙ sym (ap (λ (d : Decoded). shown_part json d part) e)

part-line : (json : Bool) (d : Decoded) (part : ℕ) {r : ℕ} → r ≡ decoded_refusal d → (r ≡ 0 → ⊥) → part ≡ 0
    → refused_line r ≡ shown_part json d part
unfolding shown_part
part-line json (refused q) part own due e = ap refused_line own ∙ sym (simp (eq-eqb part 0 e))
part-line json (accepted s) part own due e = absurd (due own)

part-empty : (json : Bool) (d : Decoded) (part : ℕ) {r : ℕ} → r ≡ decoded_refusal d → (r ≡ 0 → ⊥) → (part ≡ 0 → ⊥)
    → [] ≡ shown_part json d part
unfolding shown_part
part-empty json (refused q) part own due n = sym (simp (ne_eqb part 0 n))
part-empty json (accepted s) part own due n = absurd (due own)

-- a text that is put whole, and is the part
shown : {json : Bool} {d : Decoded} {part r : ℕ} {xs old new : List ℕ}
    → xs ≡ shown_part json d part → r ≡ length xs → new ≡ over xs old → Shown json d part old r new
shown {old = old} e n f = record { count = n ∙ ap length e; text = f ∙ ap (λ (l : List ℕ). over l old) e }

pub shown-accepted : (json : Bool) (d : Decoded) (part : ℕ) {s : Sample} {old new : List ℕ} {answer : WriteAnswer} → d ≡ accepted s
    → PartTo json d part old answer new → length (part_text json d part) ≤ length old → Shown json d part old answer.length new
shown-accepted json d part {old = old} e w room =
    let whole = output-whole (decoded_refusal d) (part_text json d part) old w (ap decoded_refusal e) room in
    shown (part-accepted json d part e) (ap (λ (a : WriteAnswer). a.length) whole.0) whole.1

pub shown-line : (json : Bool) (d : Decoded) (part : ℕ) {r n : ℕ} {old new : List ℕ} → r ≡ decoded_refusal d → (r ≡ 0 → ⊥) → part ≡ 0
    → n ≡ length (refused_line r) → new ≡ over (refused_line r) old → Shown json d part old n new
shown-line json d part own due e count text = shown (part-line json d part own due e) count text

pub shown-empty : (json : Bool) (d : Decoded) (part : ℕ) {r : ℕ} {old : List ℕ} → r ≡ decoded_refusal d → (r ≡ 0 → ⊥) → (part ≡ 0 → ⊥)
    → Shown json d part old 0 old
shown-empty json d part own due n = shown (part-empty json d part own due n) refl refl

-- ---- all parts

line-to : (json : Bool) (r n : ℕ) → shown_to json (refused r) (suc n) ≡ refused_line r
unfolding shown_part
line-to json r zero = refl
line-to json r (suc n) =
    let e : shown_part json (refused r) (suc n) ≡ [] = simp (ne_eqb (suc n) 0 (λ z. omega (arith, z))) in
    ap (λ (l : List ℕ). shown_to json (refused r) (suc n) ++ l) e ∙ append-nil _ ∙ line-to json r n

parts-to : (json : Bool) (s : Sample) (n : ℕ) → shown_to json (accepted s) n ≡ parts_to json (accepted s) n
unfolding shown_part
parts-to json s zero = refl
parts-to json s (suc n) = ap (λ (l : List ℕ). l ++ part_text json (accepted s) n) (parts-to json s n)

pub shown-join : (json : Bool) (d : Decoded) → (decoded_refusal d ≡ 0 → PartsJoin json d) → ShownJoin json d
unfolding shown_text
shown-join json (refused r) join = line-to json r 17
shown-join json (accepted s) join = parts-to json s 18 ∙ join refl
