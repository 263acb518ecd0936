-- `worse::worse` meets its contract. The link of the comparison chooses the label and its place (`label_of`, `place_of`): the empty part
-- at the first sample's start, or the label of that sample, a part of it. Assumes nothing.
use Rattle.std.proofs.Common.{arith, ◌≡◌, ◌∙◌, ◌+◌, ap, ℕ}
use Rattle.worse.proofs.Compared.{label_of, place_of}
use Rattle.worse.proofs.worse.Goals as goal

pub returns-in-Refused : goal.returns-in-Refused
returns-in-Refused c =
    let x = c.compare in
    let p = c.args.first.ref_ptr in
    let k : 0 + p.1 ≡ p.1 = omega arith in (
      label_of _ _ x.result x.ensures _ c.in-Refused.is,
      ap (λ (n : ℕ). (p.0, n)) k ∙ place_of _ _ x.result x.ensures _ c.in-Refused.is p c.args.second.ref_ptr,
    )

pub returns-in-First : goal.returns-in-First
returns-in-First c =
    let x = c.compare in (
      c.label.ensures.0 ∙ label_of _ _ x.result x.ensures _ c.in-First.is,
      c.label.ensures.1 ∙ place_of _ _ x.result x.ensures _ c.in-First.is c.args.first.ref_ptr c.args.second.ref_ptr,
    )

pub returns-in-Second : goal.returns-in-Second
returns-in-Second c =
    let x = c.compare in (
      c.label-in-Second.ensures.0 ∙ label_of _ _ x.result x.ensures _ c.in-Second.is,
      c.label-in-Second.ensures.1 ∙ place_of _ _ x.result x.ensures _ c.in-Second.is c.args.first.ref_ptr c.args.second.ref_ptr,
    )
