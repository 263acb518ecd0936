-- Products that fit 64 bits. Assumes nothing.
use Rattle.std.proofs.Common.{ℕ, ◌*◌, ◌<◌, ◌≤◌, mul-le-mul, arith, w64, Fits}

-- a number below 2^48 times one up to 10,000
pub product-fits : (m n : ℕ) → m < 281474976710656 → n ≤ 10000 → Fits w64 (m * n)
product-fits m n h k =
    let p : m * n ≤ 281474976710656 * 10000 = mul-le-mul {n₁ = m} {m₁ = n} {n₂ = 281474976710656} {m₂ = 10000} (omega arith) k in
    record { fits = omega arith }
