-- The number of each refusal of the code, and of the refusal in a result. Assumes nothing.
use Rattle.std.specs.Prelude.{ℕ, Result, Ok, Err}
use Rattle.rfc4737.specs.declared.refusal.Refusal.{Refusal}
use Rattle.rfc4737.specs.declared.refusal.Refusal.TheVariants.{
  EndsEarly,
  OctetsFollow,
  LongLabel,
  SentOutside,
  ManyArrivals,
  NumberOutside,
  TimeBack,
  OutputShort,
  AskedOutside,
  StateUnfit,
  StateFull,
  ListsDiffer,
  OctetOutside,
  LineMalformed,
  RecordCut,
  NoStream,
  FragmentUnfit,
  SecondsOver,
}
use Rattle.rfc4737.specs.Refusals.{
  ends_early,
  octets_follow,
  long_label,
  sent_outside,
  many_arrivals,
  number_outside,
  time_back,
  output_short,
  asked_outside,
  state_unfit,
  state_full,
  lists_differ,
  octet_outside,
  line_malformed,
  record_cut,
  no_stream,
  fragment_unfit,
  seconds_over,
}

-- the number of a refusal
abbrev pub number_of : Refusal → ℕ
number_of EndsEarly = ends_early
number_of OctetsFollow = octets_follow
number_of LongLabel = long_label
number_of SentOutside = sent_outside
number_of ManyArrivals = many_arrivals
number_of NumberOutside = number_outside
number_of TimeBack = time_back
number_of OutputShort = output_short
number_of AskedOutside = asked_outside
number_of StateUnfit = state_unfit
number_of StateFull = state_full
number_of ListsDiffer = lists_differ
number_of OctetOutside = octet_outside
number_of LineMalformed = line_malformed
number_of RecordCut = record_cut
number_of NoStream = no_stream
number_of FragmentUnfit = fragment_unfit
number_of SecondsOver = seconds_over

-- the number of the refusal in a result, 0 for none
abbrev pub refusal_in : {A : Type 0} → Result A Refusal → ℕ
refusal_in (Ok a) = 0
refusal_in (Err refusal) = number_of refusal
