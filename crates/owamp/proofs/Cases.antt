-- The tables of specs/ (times, refusals, imported arrivals, a written record), each by computation of the definitions that it opens.
-- Assumes nothing.
use mathlib.Core.Path.{refl}
use Rattle.octets.specs.BigEndian.{be_value, be_octets}
use Rattle.rfc4737.specs.Refusals.{outside}
use Rattle.sample.specs.Format.{items_in}
use Rattle.owamp.specs.Record.{record_in, records_arrivals}
use Rattle.merging.specs.Order.{passing, insert, in_order}
use Rattle.owamp.specs.Clock.{microseconds, taken_off, from_smallest}
use Rattle.owamp.specs.Judge.{judge_number, judge_numbers, records_refusal}
use Rattle.owamp.specs.Calls.{imported_arrivals, record_octets}
use Rattle.owamp.specs.Cases.{RecordsReadAsGiven, RecordsWrittenAsGiven}

pub read-as-given : RecordsReadAsGiven
unfolding microseconds taken_off imported_arrivals be_octets records_arrivals items_in record_in be_value passing in_order insert from_smallest
    records_refusal judge_numbers judge_number outside
read-as-given = record { times = refl; refusals = refl; arrivals = refl }

pub written-as-given : RecordsWrittenAsGiven
unfolding record_octets be_octets
written-as-given = record { written = refl }
