-- `buffering::Share::is_reached` meets its contract: a product of two numbers of 32 bits fits 64. Assumes nothing.
use Rattle.std.proofs.Common.{rules, ◌*◌, ◌^◌, ◌≤◌, ◌<◌, ℕ, arith, mul-le-mul, w64, Fits}
use Rattle.buffering.proofs.Share.is_reached.Goals as goal

product-fits : (m n : ℕ) → m < 2 ^ 32 → n < 2 ^ 32 → Fits w64 (m * n)
product-fits m n h k =
    let p : m * n ≤ 4294967295 * 4294967295 =
    mul-le-mul {n₁ = m} {m₁ = n} {n₂ = 4294967295} {m₂ = 4294967295} (omega arith) (omega arith) in
    record { fits = omega arith }

pub overflow_mul-due : goal.overflow_mul-due
overflow_mul-due c = product-fits _ _ (search rules) (search rules)

pub overflow_mul-given : goal.overflow_mul-given
overflow_mul-given c = product-fits _ _ (search rules) (search rules)
