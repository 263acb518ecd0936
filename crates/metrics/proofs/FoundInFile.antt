-- Reading a file by its layout, as sample's contracts promise it. The layout that the check returns has K and A within their limits and
-- numbers from 1 to K (`laid`): an accepted file by its limits, and a refused one since its layout has no packets and no arrivals. So
-- every number that is read is within its limits (`arrival-known`).
-- Here d is the decoded file, h that the layout is the file's, i the index of a record from 0, a the arrival read there, and s a packet's
-- number. Assumes nothing.
use mathlib.Core.Path.{◌≡◌, refl, ap, ◌∙◌}
use mathlib.Core.List.{List}
use Prim.Native.Nat.{ℕ, ◌+◌, ◌*◌, ◌-◌, ◌≤◌, ◌<◌}
use native.Mathlib.Omega.{arith}
use lib.ListN.{length}
use Rattle.octets.specs.Below.{Octets}
use Rattle.octets.proofs.Memory.{taken}
use Rattle.rfc4737.specs.declared.Arrival.{Arrival}
use Rattle.rfc4737.specs.Extent.{size_in}
use Rattle.rfc4737.specs.Judge.{sent_most}
use Rattle.sample.specs.declared.Layout.{Layout}
use Rattle.sample.specs.Decode.{arrival_in, Decoded, refused, accepted, decode, layout_of}
use Rattle.sample.specs.Places.{no_arrival, SizeOfSample, ArrivalOfSample, ArrivalsFrom}
use Rattle.sample.proofs.Accepted.{accepted-limits, number-within}
use Rattle.sample.proofs.Items.{arrival-taken}
use Rattle.metrics.specs.Sample.{size_of}
use Rattle.metrics.specs.Records.{arrival_at, FileLayout}

module _ (file : List ℕ) where
  -- the check's answer is the file's layout
  pub laid : Octets file → FileLayout (decode file) (layout_of (decode file))
  laid o = go (decode file) refl
    where
      go : (d : Decoded) → decode file ≡ d → FileLayout d (layout_of d)
      go (refused r) e = record { laid = refl; sent_few = omega arith; few = omega arith; numbers = λ i h. absurd (omega arith) }
      go (accepted s) e =
          let m = accepted-limits file s e o in
          record { laid = refl; sent_few = omega arith; few = omega arith; numbers = number-within file s e o no_arrival }

  module _ (layout : Layout) (h : FileLayout (decode file) layout) where
    -- the arrival of record i + 1, and within which limits its number lies
    pub arrival-known : (i : ℕ) {a : Arrival} → i < layout.arrivals → ArrivalOfSample file layout i a
        → (a ≡ arrival_at (decode file) i) × (1 ≤ a.number) × (a.number ≤ sent_most)
    arrival-known i g e =
        let q = e h.laid g in
        let m = ap (λ (a : Arrival). a.number) q in
        let n = h.numbers i g in
        (q, omega (arith, m, n), omega (arith, m, n, h.sent_few))

    -- its twelve octets are in the file
    pub arrival-inside : (i : ℕ) {from : ℕ} → i < layout.arrivals → ArrivalsFrom file layout from → from + 12 * i + 12 ≤ length file
    arrival-inside i g p = p.inside i h.laid g

    -- reading its twelve octets gives the arrival
    pub arrival-read : (i : ℕ) {from : ℕ} {a : Arrival} → i < layout.arrivals → ArrivalsFrom file layout from
        → a ≡ arrival_in (taken (from + 12 * i) 12 file)
        → (a ≡ arrival_at (decode file) i) × (1 ≤ a.number) × (a.number ≤ sent_most)
    arrival-read i {from} g p e = arrival-known i g (λ l k. arrival-taken (from + 12 * i) file e ∙ p.arrival i l k)

    -- the payload size of packet s
    pub size-stands : (s : ℕ) {size : ℕ} → 1 ≤ s → s ≤ layout.sent → SizeOfSample file layout (s - 1) size → size ≡ size_of (decode file) s
    unfolding size_in
    size-stands s low high e = e h.laid (omega arith)
