-- `writing::Text::put_number` meets its contract: a number has at most 20 digits, which stand after what was written (`added`). Assumes
-- nothing.
use Rattle.std.proofs.Common.{◌≡◌, ◌+◌, ◌≤◌, length, take, ap, arith, length-append}
use Rattle.decimal.specs.Decimal.{decimal_of}
use Rattle.decimal.proofs.Laws.{at-most-20}
use Rattle.writing.proofs.Added.{used, added}
use Rattle.writing.proofs.text.Text.put_number.Goals as goal

-- the room for the digits
room : (g : _) (c : goal.After-self-2-1 g) → c.self.inside.len + length (decimal_of c.args.v) ≤ length c.self.inside.octets
room g c =
    let text = c.self.inside in
    let e : take text.len text.octets ≡ c.args.self.now = c.self.view_is in
    omega (arith, at-most-20 c.args.v (omega arith), used _ e (omega arith))

pub overflow_add-self : goal.overflow_add-self
overflow_add-self g c =
    let text = c.self.inside in
    let e : take text.len text.octets ≡ c.args.self.now = c.self.view_is in
    omega (arith, at-most-20 c.args.v (omega arith), used _ e (omega arith))

pub invariant_of-self : goal.invariant_of-self
invariant_of-self g c =
    let text = c.self.inside in
    let e : take text.len text.octets ≡ c.args.self.now = c.self.view_is in
    omega (arith, at-most-20 c.args.v (omega arith), used _ e (omega arith))

pub returns-clause-written : goal.returns-clause-written
returns-clause-written g c =
    let text = c.self.inside in
    let e : take text.len text.octets ≡ c.args.self.now = c.self.view_is in
    let inside : text.len ≤ length text.octets = omega arith in
    rw c.put_decimal-digits.ensures.0 (added _ e inside _ _ c.put_decimal-digits.ensures.1 (room g c))

pub returns-clause-room : goal.returns-clause-room
returns-clause-room g c =
    let few : length (decimal_of c.args.v) ≤ 20 = at-most-20 c.args.v (omega arith) in
    omega (arith, few, ap length (returns-clause-written g c), length-append c.args.self.now (decimal_of c.args.v))
