-- `worse::greater` meets its contract: it compares the products of the definition, and a product of two 32-bit numbers fits in 64 bits.
-- Assumes nothing.
use Rattle.std.proofs.Common.{rules, ◌*◌, ◌^◌, ◌≤◌, ◌<◌, ℕ, arith, mul-le-mul, w64, Fits, refl}
use Rattle.worse.specs.Worse.{greater}
use Rattle.worse.proofs.greater.Goals as goal

product-fits : (m n : ℕ) → m < 2 ^ 32 → n < 2 ^ 32 → Fits w64 (m * n)
product-fits m n h k =
    let p : m * n ≤ 4294967295 * 4294967295 =
    mul-le-mul {n₁ = m} {m₁ = n} {n₂ = 4294967295} {m₂ = 4294967295} (omega arith) (omega arith) in
    record { fits = omega arith }

pub overflow_mul-ours : goal.overflow_mul-ours
overflow_mul-ours c = product-fits _ _ (search rules) (search rules)

pub overflow_mul-theirs : goal.overflow_mul-theirs
overflow_mul-theirs c = product-fits _ _ (search rules) (search rules)

pub returns : goal.returns
unfolding greater
returns c = refl
