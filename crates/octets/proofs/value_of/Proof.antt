-- `octets::value_of` meets its contract. The loop's invariant: i is at most n, and v is the value of the first i octets from `at` on. n is
-- at most 8, so v is below 256 ^ 7 before each octet, and the product and the sum fit 64 bits; a turn is `value-part-snoc`. The measure is
-- n - i. Assumes nothing.
use Prim.Native.Nat.{◌+◌, ◌-◌, ◌^◌, ◌≤◌, ◌<◌}
use native.Mathlib.Omega.{arith}
use mathlib.Core.Path.{◌≡◌, sym}
use lib.ListN.{get_or}
use mir.Syntax.{w8}
use Rattle.octets.specs.BigEndian.{be_value}
use Rattle.octets.specs.Memory.{part}
use Rattle.octets.proofs.Below.{below-fits}
use Rattle.octets.proofs.BigEndian.{value-nil, value-part, value-part-snoc}
use Rattle.octets.proofs.value_of.Statement.{statement}
use Rattle.octets.proofs.value_of.Tie as tie

-- v₀ and i₀ are v and i where the loop begins
abbrev invariant-loop-i : tie.invariant-loop-i
invariant-loop-i s at n v₀ i₀ v i = (i ≤ n) × (v ≡ be_value (part at i s))

abbrev decreases-loop-i : tie.decreases-loop-i
decreases-loop-i s at n v₀ i₀ v i = n - i

loop-holds : tie.Need-loop-i-init invariant-loop-i decreases-loop-i
loop-holds c = (omega arith, sym value-nil)

-- the octet that is read is below 256
octet : (c : tie.After-shared_slice_known-1 invariant-loop-i decreases-loop-i)
    → get_or c.before.before.before.args.s.now (c.before.before.before.args.at + c.before.before.loop-i.i) 0 < 256
octet c = (c.shared_slice_known-1.given (c.before.before.before.args.at + c.before.before.loop-i.i)).fits

-- at most seven octets were read before it
room : (c : tie.After-shared_slice_known-1 invariant-loop-i decreases-loop-i) → c.before.before.loop-i.v < 256 ^ 7
room c =
    let at-loop = c.before.before in
    let args = at-loop.before.args in
    rw at-loop.loop-i.invariant.1
    (value-part 7 args.at at-loop.loop-i.i args.s.now (below-fits w8 args.s.now c.shared_slice_known-1.given) (omega arith))

cast-octet : tie.Need-overflow_cast-octet invariant-loop-i decreases-loop-i
cast-octet c = omega (arith, octet c)

mul-v : tie.Need-overflow_mul-v invariant-loop-i decreases-loop-i
mul-v c = omega (arith, octet c, room c)

add-v : tie.Need-overflow_add-v invariant-loop-i decreases-loop-i
add-v c = omega (arith, octet c, room c)

loop-again : tie.Need-loop-i-preserved invariant-loop-i decreases-loop-i
loop-again c =
    let at-loop = c.before.before in
    let args = at-loop.before.args in
    (omega arith, rw at-loop.loop-i.invariant.1 (sym (value-part-snoc args.at at-loop.loop-i.i args.s.now (omega arith))))

returns : tie.Need-returns invariant-loop-i decreases-loop-i
returns c =
    let e : c.before.loop-i.i ≡ c.before.before.args.n = omega arith in
    rw (← e) c.before.loop-i.invariant.1

pub value_of_spec : {M : Type 1} → statement M
value_of_spec =
    tie.close
    (tie.spec
    invariant-loop-i
    decreases-loop-i
    loop-holds
    (λ c. omega arith)
    (λ c. omega arith)
    cast-octet
    mul-v
    add-v
    (λ c. omega arith)
    (λ c. omega arith)
    loop-again
    returns)
