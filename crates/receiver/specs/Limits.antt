-- The receiver's limits. Assumes nothing.
use Rattle.std.specs.Prelude.{ℕ}

-- the length of the window: how many jumps are kept at most
abbrev pub window_places : ℕ
window_places = 64
