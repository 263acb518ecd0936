-- Moving the clock of a sample s by c. The refusals of arrivals are the same by any clock (`judge-moved`), and no other refusal depends on
-- times. So a sample of an accepted file, which is fit by `exact`, is fit after the move if its times still fit their field, and its file
-- decodes to it. Two moves are one by the sum, since they are so for each arrival (`moved_twice`). Assumes nothing.
use Prim.Native.Nat.{ℕ}
use mathlib.Core.List.{List}
use mathlib.Core.Path.{ap, ◌∙◌}
use lib.ListN.{length, length-map}
use Rattle.octets.specs.Below.{Octets}
use Rattle.rfc4737.specs.declared.Arrival.{Arrival}
use Rattle.rfc4737.specs.Moved.{moved_one}
use Rattle.rfc4737.proofs.Moved.{judge-moved, moved_twice}
use Rattle.sample.specs.Moved.{moved_sample, MovedAccepted, SampleMovedTwice}
use Rattle.sample.proofs.Exact.{limits, within-limits, decode-file, exact}

-- nothing of a moved sample is refused, if its times fit their field
pub moved-accepted : (file : List ℕ) → Octets file → MovedAccepted file
moved-accepted file o s c e t =
    let f = ((exact file o s).0 e).0 in
    let l = limits s f.judged in
    let j = within-limits (moved_sample c s) (record {
      label_fits = l.label_fits;
      shown = l.shown;
      sent_some = l.sent_some;
      sent_fits = l.sent_fits;
      arrivals_fit = rw (length-map s.arrivals (moved_one c)) l.arrivals_fit;
      judged = judge-moved c (length s.sizes) s.arrivals ∙ l.judged;
    }) in
    decode-file (moved_sample c s) (record { judged = j; sizes = f.sizes; times = t })

pub sample-twice : SampleMovedTwice
sample-twice b c s = ap (λ (l : List Arrival). record { label = s.label; sizes = s.sizes; arrivals = l }) (moved_twice b c s.arrivals)
