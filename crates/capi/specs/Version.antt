-- The version of the library for C. Assumes nothing.
use Rattle.std.specs.Prelude.{ℕ}

-- major * 1,000,000 + minor * 1,000 + patch, for 0.12.0
abbrev pub version : ℕ
version = 12000
