-- What stands in a file at the offsets of its own layout is what its sample has. Each law goes by what the file decodes to: of an accepted
-- one the laws about its octets say it (`size-found`, `arrival-found`, `octets-inside`), and a refused one has a layout of no packets and
-- no arrivals, so that nothing is asked for. The octets of a record say its arrival since they are there, so that `arrival_found` reads
-- them. Here y is the layout, e that it is the file's, h that there is such a packet or record, q what was read. Assumes nothing.
use Prim.Native.Nat.{ℕ, ◌+◌, ◌*◌, ◌≤◌, ◌<◌}
use native.Mathlib.Omega.{arith}
use mathlib.Core.Path.{◌≡◌, refl, sym, ap, ◌∙◌}
use mathlib.Core.List.{List}
use borrow.Author.Tests.{le-ltb}
use lib.ListN.{length, get_or}
use Rattle.octets.specs.Memory.{part}
use Rattle.rfc4737.specs.declared.Arrival.{Arrival}
use Rattle.sample.specs.Format.{arrival_width}
use Rattle.sample.specs.Decode.{arrival_in, Decoded, refused, accepted, decode, sample_of, layout_of}
use Rattle.sample.specs.Places.{no_arrival, arrivals_at, size_found, arrival_found, SizeOfSample, ArrivalOfSample, ArrivalsFrom}
use Rattle.sample.specs.declared.Layout.{Layout}
use Rattle.sample.proofs.Accepted.{size-found, octets-inside, arrival-found}

module _ (file : List ℕ) (y : Layout) where
  -- a payload size
  pub size-of-sample : (j : ℕ) {size : ℕ} → size ≡ size_found file y j → SizeOfSample file y j size
  size-of-sample j q e h = q ∙ go (decode file) refl
    where
      go : (d : Decoded) → decode file ≡ d → size_found file y j ≡ get_or (sample_of d).sizes j 0
      go (refused r) f = absurd (omega (arith, ap (λ (x : Layout). x.sent) (e ∙ ap layout_of f)))
      go (accepted s) f = size-found file s f y e j h

  -- an arrival
  pub arrival-of-sample : (i : ℕ) {a : Arrival} → a ≡ arrival_found file y i → ArrivalOfSample file y i a
  arrival-of-sample i q e h = q ∙ go (decode file) refl
    where
      go : (d : Decoded) → decode file ≡ d → arrival_found file y i ≡ get_or (sample_of d).arrivals i no_arrival
      go (refused r) f = absurd (omega (arith, ap (λ (x : Layout). x.arrivals) (e ∙ ap layout_of f)))
      go (accepted s) f = arrival-found file s f y e i no_arrival h

  -- the octets of an arrival
  arrival-inside : (i : ℕ) → y ≡ layout_of (decode file) → i < y.arrivals → arrivals_at y + arrival_width * i + arrival_width ≤ length file
  arrival-inside i e h = go (decode file) refl
    where
      go : (d : Decoded) → decode file ≡ d → arrivals_at y + arrival_width * i + arrival_width ≤ length file
      go (refused r) f = absurd (omega (arith, ap (λ (x : Layout). x.arrivals) (e ∙ ap layout_of f)))
      go (accepted s) f = octets-inside file s f y e i h

  octets-found : (i : ℕ) → y ≡ layout_of (decode file) → i < y.arrivals
      → arrival_in (part (arrivals_at y + arrival_width * i) arrival_width file) ≡ arrival_found file y i
  unfolding arrival_found
  octets-found i e h = sym (rw (le-ltb (length file) (arrivals_at y + arrival_width * i + arrival_width) (arrival-inside i e h)))

  -- where the arrivals stand
  pub arrivals-from : {place : ℕ} → place ≡ arrivals_at y → ArrivalsFrom file y place
  arrivals-from p =
      rw p (record { inside = arrival-inside; arrival = λ i e h. arrival-of-sample i (octets-found i e h) e h })
