-- The packet's bit is below 64, so 1 shifted by it is that power of 2 and fits its word.
use Prim.Native.Nat.{ℕ, ◌-◌, ◌*◌, ◌%◌, ◌^◌, ◌<◌}
use mathlib.Core.Path.{◌≡◌, ap, ◌∙◌}
use native.Mathlib.Nat.{mod-lt, one-mul}
use native.Mathlib.Omega.{arith}
use lib.Bits.{bit_or}
use lib.ListN.{get_or, set}
use lib.Pow.{shl_exact}
use lib.Dec.{lit<}
use Rattle.receiver.specs.Marks.{word_of, bit_of, with_mark}
use Rattle.receiver.proofs.marking.mark.Goals as goal

pub returns : goal.returns
unfolding with_mark
returns c =
    let b = bit_of c.args.number in
    let low : b < 64 = mod-lt (c.args.number - 1) (lit< tt) in
    let e : 1 * 2 ^ b % 2 ^ 64 ≡ 2 ^ b = shl_exact 1 b 64 (lit< tt) (omega arith) ∙ one-mul (2 ^ b) in
    ap (λ (w : ℕ). set c.args.marks.now (word_of c.args.number)
    (bit_or (get_or c.args.marks.now (word_of c.args.number) 0) w)) e
