-- An accepted file, for the crates above. Its layout has the counts of the file, so a place by the layout is the place by the counts, and
-- what stands there is what the sample has at that place of its list (`size-found`, `arrival-found`). What the sample satisfies follows
-- from `exact`: it is fit, so it keeps its limits, and the file is its file, so its length is the end of the last section and at most
-- that of the longest sample. Here s is the sample, by e; y is the layout, by f; o says that the file is octets; i and j are places in
-- the lists, z what is read past their end. Assumes nothing.
use Prim.Native.Nat.{ℕ, ◌+◌, ◌*◌, ◌^◌, ◌≤◌, ◌<◌}
use native.Mathlib.Omega.{arith}
use mathlib.Core.Path.{◌≡◌, sym, ap, ◌∙◌, subst}
use mathlib.Core.List.{List}
use borrow.Author.Tests.{le-ltb}
use lib.ListN.{length, get_or, get_or-map}
use Rattle.octets.specs.Below.{Below, Octets}
use Rattle.octets.specs.BigEndian.{be_value}
use Rattle.octets.specs.Memory.{part}
use Rattle.rfc4737.specs.declared.Arrival.{Arrival}
use Rattle.rfc4737.specs.Times.{back_most}
use Rattle.sample.specs.Format.{Sample, longest, size_width, arrival_width, items_at, last_end, file_of}
use Rattle.sample.specs.Judge.{FitSample}
use Rattle.sample.specs.Decode.{label_count, sent_at, sent_count, arrived_at, arrival_count, arrival_in, sample_in, decode, accepted, sample_of, layout_of}
use Rattle.sample.specs.Places.{no_arrival, sizes_at, arrivals_at, size_found, arrival_found}
use Rattle.sample.specs.declared.Layout.{Layout}
use Rattle.sample.proofs.Items.{items-stand}
use Rattle.rfc4737.proofs.Judged.{judged-number, judged-times}
use Rattle.sample.proofs.Decoded.{refused_none, accepted-decode, layout-accepted}
use Rattle.sample.proofs.Exact.{Limits, limits, file-length, exact}
use Rattle.sample.proofs.Answers.{found-accepted}

-- ---- from the layout that the check answers

-- no refusal: the file is accepted
pub found-sample : (file : List ℕ) (y : Layout) → y ≡ layout_of (decode file) → y.refusal ≡ 0
    → decode file ≡ accepted (sample_of (decode file))
found-sample file y e z =
    let d = found-accepted file y e z in
    d ∙ sym (ap (λ x. accepted (sample_of x)) d)

module _ (file : List ℕ) (s : Sample) (e : decode file ≡ accepted s) where
  -- ---- the values found are the sample's

  module _ (y : Layout) (f : y ≡ layout_of (decode file)) where
    -- the counts of the layout are those of the file
    counts : (y.label ≡ label_count file) × (y.sent ≡ sent_count file) × (y.arrivals ≡ arrival_count file)
    counts =
        let c = f ∙ layout-accepted file (accepted-decode file s e).0 in
        (ap (λ (x : Layout). x.label) c, ap (λ (x : Layout). x.sent) c, ap (λ (x : Layout). x.arrivals) c)

    -- the payload size of packet j + 1
    pub size-found : (j : ℕ) → j < y.sent → size_found file y j ≡ get_or s.sizes j 0
    unfolding size_found sample_in
    size-found j h =
        let c = counts in
        let p : sizes_at y + size_width * j ≡ items_at (sent_at file) + size_width * j = omega arith in
        ap (λ (n : ℕ). be_value (part n size_width file)) p
        ∙ sym (items-stand size_width be_value (sent_count file) (items_at (sent_at file)) file j 0 (omega arith))
        ∙ ap (λ (x : Sample). get_or x.sizes j 0) (accepted-decode file s e).1

    -- the octets of record i + 1 are there
    pub octets-inside : (i : ℕ) → i < y.arrivals → arrivals_at y + arrival_width * i + arrival_width ≤ length file
    octets-inside i h =
        let c = counts in
        let w = (refused_none file (accepted-decode file s e).0).ends in
        omega arith

    -- its arrival
    pub arrival-found : (i : ℕ) (z : Arrival) → i < y.arrivals → arrival_found file y i ≡ get_or s.arrivals i z
    unfolding arrival_found sample_in
    arrival-found i z h =
        let c = counts in
        let p : arrivals_at y + arrival_width * i ≡ items_at (arrived_at file) + arrival_width * i = omega arith in
        rw (le-ltb (length file) (arrivals_at y + arrival_width * i + arrival_width) (octets-inside i h))
        (ap (λ (n : ℕ). arrival_in (part n arrival_width file)) p
        ∙ sym (items-stand arrival_width arrival_in (arrival_count file) (items_at (arrived_at file)) file i z (omega arith))
        ∙ ap (λ (x : Sample). get_or x.arrivals i z) (accepted-decode file s e).1)

  -- ---- what the sample satisfies, for a file of octets

  module _ (o : Octets file) where
    pub accepted-fit : FitSample s
    accepted-fit = ((exact file o s).0 e).0

    pub accepted-file : file ≡ file_of s
    accepted-file = ((exact file o s).0 e).1

    -- the label has at most 64 octets, K is 1 to 4,096, A is at most 4,096
    pub accepted-limits : Limits s
    accepted-limits = limits s accepted-fit.judged

    pub accepted-length : length file ≡ last_end (length s.label) (length s.sizes) (length s.arrivals)
    accepted-length = ap length accepted-file ∙ file-length s

    -- which is at most that of the longest sample
    pub accepted-most : length file ≤ longest
    accepted-most =
        let l = accepted-limits in
        let n = accepted-length in
        omega arith

    -- every payload size fits two octets
    pub size_fits : Below (2 ^ 16) s.sizes
    size_fits = accepted-fit.sizes

    module _ (z : Arrival) where
      -- every sequence number lies in 1 to K
      pub number-within : (i : ℕ) → i < length s.arrivals
          → (1 ≤ (get_or s.arrivals i z).number) × ((get_or s.arrivals i z).number ≤ length s.sizes)
      number-within i h = judged-number (length s.sizes) 0 s.arrivals accepted-limits.judged i z h

      -- no arrival time is over 1,000 below an earlier one
      pub times-within : (i j : ℕ) → i ≤ j → j < length s.arrivals
          → (get_or s.arrivals i z).time ≤ (get_or s.arrivals j z).time + back_most
      times-within i j p h = judged-times (length s.sizes) 0 s.arrivals accepted-limits.judged i j z p h

    -- every arrival time fits eight octets
    pub time-fits : (i : ℕ) → (get_or s.arrivals i no_arrival).time < 2 ^ 64
    time-fits i = subst (λ (n : ℕ). n < 2 ^ 64) (get_or-map (λ (a : Arrival). a.time) s.arrivals i no_arrival) (accepted-fit.times i)
