-- A refusal of the code has a number above 0, so it is the first that applies of those that it begins. d is a refusal, rs are
-- the numbers of those after it. Assumes nothing.
use Prim.Native.Nat.{ℕ, ◌<◌}
use mathlib.Core.Path.{◌≡◌}
use mathlib.Core.List.{List, ◌∷◌}
use Rattle.std.proofs.Common.{lit<}
use Rattle.rfc4737.specs.declared.refusal.Refusal.{Refusal}
use Rattle.rfc4737.specs.declared.refusal.Refusal.TheVariants.{
  EndsEarly,
  OctetsFollow,
  LongLabel,
  SentOutside,
  ManyArrivals,
  NumberOutside,
  TimeBack,
  OutputShort,
  AskedOutside,
  StateUnfit,
  StateFull,
  ListsDiffer,
  OctetOutside,
  LineMalformed,
  RecordCut,
  NoStream,
  FragmentUnfit,
  SecondsOver,
}
use Rattle.rfc4737.specs.Refusals.{first_refusal}
use Rattle.rfc4737.specs.Refused.{number_of}
use Rattle.rfc4737.proofs.Due.{first-due}

pub number-above : (d : Refusal) → 0 < number_of d
number-above EndsEarly = lit< tt
number-above OctetsFollow = lit< tt
number-above LongLabel = lit< tt
number-above SentOutside = lit< tt
number-above ManyArrivals = lit< tt
number-above NumberOutside = lit< tt
number-above TimeBack = lit< tt
number-above OutputShort = lit< tt
number-above AskedOutside = lit< tt
number-above StateUnfit = lit< tt
number-above StateFull = lit< tt
number-above ListsDiffer = lit< tt
number-above OctetOutside = lit< tt
number-above LineMalformed = lit< tt
number-above RecordCut = lit< tt
number-above NoStream = lit< tt
number-above FragmentUnfit = lit< tt
number-above SecondsOver = lit< tt

pub first-err : (d : Refusal) (rs : List ℕ) → first_refusal (number_of d ∷ rs) ≡ number_of d
first-err d rs = first-due (number_of d) rs (number-above d)
