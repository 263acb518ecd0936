-- The text of an input: the line of its refusal (`shown-refused`), or its summary if it is accepted (`shown-accepted`). d is the decoded
-- input, r its refusal. Assumes nothing.
use mathlib.Core.Path.{◌≡◌, sym, ap, ◌∙◌}
use Prim.Native.Nat.{ℕ}
use Rattle.listing.specs.Lines.{refused_line}
use Rattle.sample.specs.Decode.{Decoded, refused, accepted, decoded_refusal}
use Rattle.sample.specs.Format.{Sample}
use Rattle.cmd_summary.specs.declared.Form.{Form}
use Rattle.cmd_summary.specs.Shown.{form_text, shown_text}

pub shown-refused : (form : Form) (d : Decoded) {r : ℕ} → r ≡ decoded_refusal d → (r ≡ 0 → ⊥) → refused_line r ≡ shown_text form d
unfolding shown_text
shown-refused form (refused q) own due = ap refused_line own
shown-refused form (accepted s) own due = absurd (due own)

pub shown-accepted : (form : Form) (d : Decoded) {s : Sample} → d ≡ accepted s → form_text form d ≡ shown_text form d
unfolding shown_text
shown-accepted form d e = ap (form_text form) e ∙ sym (ap (shown_text form) e)
