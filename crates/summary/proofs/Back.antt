-- Whether the clock steps back, record by record: the arrivals left begin with record i + 1 (`back-next`), or there are none (`back_end`).
-- d is the decoded file, y its layout, last the time before record i + 1, and a this record. Assumes nothing.
use Prim.Native.Nat.{ℕ, ◌+◌, ◌≤◌, ◌<◌}
use native.Mathlib.Omega.{arith}
use native.Mathlib.Numerals.{add-one}
use mathlib.Core.Path.{◌≡◌}
use mathlib.Core.Bool.{false, ◌||◌}
use lib.Dec.{ltb}
use lib.ListN.{length, drop, drop_of_length-le}
use lib.Seq.{drop-cons}
use Rattle.rfc4737.specs.declared.Arrival.{Arrival}
use Rattle.rfc4737.specs.Times.{steps_back}
use Rattle.sample.specs.declared.Layout.{Layout}
use Rattle.sample.specs.Decode.{Decoded}
use Rattle.sample.specs.Places.{no_arrival}
use Rattle.metrics.specs.Sample.{sample_arrivals}
use Rattle.metrics.specs.Records.{arrival_at, FileLayout}
use Rattle.metrics.proofs.TablesFollow.{arrivals-laid}

module _ (d : Decoded) (y : Layout) (h : FileLayout d y) (i last : ℕ) where
  -- record i + 1
  pub back-next : i < y.arrivals → (a : Arrival) → a ≡ arrival_at d i
      → steps_back last (drop i (sample_arrivals d)) ≡ (ltb a.time last || steps_back a.time (drop (i + 1) (sample_arrivals d)))
  unfolding steps_back
  back-next g a e =
      let inside : i < length (sample_arrivals d) = omega (arith, g, arrivals-laid d y h) in
      rw (drop-cons (sample_arrivals d) i no_arrival inside, e, add-one)

  -- the end
  pub back_end : y.arrivals ≤ i → steps_back last (drop i (sample_arrivals d)) ≡ false
  unfolding steps_back
  back_end g = rw (drop_of_length-le (sample_arrivals d) {i = i} (omega (arith, g, arrivals-laid d y h)))
