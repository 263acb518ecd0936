-- `octets::number_at` meets its contract. If `at` is past the end, the part is empty and its value is 0. If the octets of the width are
-- left, `value_of` reads them. Else it reads the octets up to the end, which are the whole part. Assumes nothing.
use Prim.Native.Nat.{ℕ, ◌-◌, min}
use native.Mathlib.Omega.{arith}
use mathlib.Core.Path.{sym, ap, ◌∙◌}
use borrow.Author.Rules.{rules}
use lib.ListN.{length}
use Rattle.octets.specs.BigEndian.{be_value}
use Rattle.octets.specs.Memory.{part}
use Rattle.octets.proofs.BigEndian.{value-nil}
use Rattle.octets.proofs.Memory.{part_none, part-rest}
use Rattle.octets.proofs.number_at.Statement.{statement}
use Rattle.octets.proofs.number_at.Tie as tie

returns : tie.Need-returns-then-s-at
returns c =
    let args = c.before.before.before.args in
    sym (ap be_value (part_none args.at (min args.width 8) args.s.now (omega arith)) ∙ value-nil)

returns-2 : tie.Need-returns-then-n-left
returns-2 c =
    let at-octets-of = c.before.before.before in
    let args = at-octets-of.before.before.args in
    c.value_of.ensures ∙ ap (λ (n : ℕ). be_value (part args.at n args.s.now)) at-octets-of.octets_of-n.ensures

returns-3 : tie.Need-returns
returns-3 c =
    let args = c.before.before.before.before.before.args in
    let at = args.at in
    let s = args.s.now in
    c.value_of-2.ensures
    ∙ ap be_value (part-rest at (length s - at) s (omega arith) ∙ sym (part-rest at (min args.width 8) s (omega arith)))

pub number_at_spec : {M : Type 1} → statement M
number_at_spec =
    tie.close
    (tie.spec
    (λ c κs. search rules)
    returns
    (λ c. search rules) (λ c κs. search rules)
    returns-2
    (λ c κs. search rules)
    returns-3)
