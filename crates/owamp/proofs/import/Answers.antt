use Rattle.merging.proofs.Ordered.{only_one}
use Rattle.owamp.specs.Record.{records_arrivals}
use Rattle.owamp.specs.Order.{time_of}
use Rattle.owamp.proofs.Accepted.{accepted-lists}
use Rattle.owamp.proofs.Cases.{read-as-given}
use Rattle.owamp.proofs.Clocks.{distance}
use Rattle.owamp.proofs.import.Goals as goal

pub returns-clause-order : goal.returns-clause-order
returns-clause-order c = only_one time_of (records_arrivals c.args.records.now)

pub returns-clause-clock : goal.returns-clause-clock
returns-clause-clock c = distance

pub returns-clause-accepted : goal.returns-clause-accepted
returns-clause-accepted c = accepted-lists c.args.k c.args.records.now

pub returns-clause-cases : goal.returns-clause-cases
returns-clause-cases c = read-as-given
