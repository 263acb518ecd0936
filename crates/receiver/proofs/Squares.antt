-- The square of a run of the receiver fits the sum of squares: both factors are at most 4,096. Assumes nothing.
use Prim.Native.Nat.{ℕ, ◌*◌, ◌≤◌}
use native.Mathlib.Nat.{mul-le-mul}
use Rattle.rfc4737.specs.Judge.{sent_most}
use Rattle.rfc4737.specs.Runs.{squares_most}

pub square-high : (run : ℕ) → run ≤ sent_most → run * run ≤ squares_most
square-high run h = mul-le-mul h h
