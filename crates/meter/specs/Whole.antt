-- A meter put together of its parts. Assumes nothing.
use Rattle.std.specs.Prelude.{List, ℕ}
use Rattle.receiver.specs.declared.Stream.{Stream}
use Rattle.receiver.specs.declared.Places.{Places}
use Rattle.meter.specs.declared.Meter.{Meter}

-- the meter of two streams, with the marks of each, and their places
abbrev pub whole_meter : Stream → Stream → List ℕ → List ℕ → Places → Meter
whole_meter first second marks₁ marks₂ places =
    record { first = record { stream = first; marks = marks₁ }; second = record { stream = second; marks = marks₂ }; places = places }
