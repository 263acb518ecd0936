-- Any listing has room in LISTING_OCTETS (`sample-within`); the example and moving the clock are laws. Assumes nothing.
use Rattle.listing.proofs.Example.{example-holds}
use Rattle.metrics.proofs.Listed.{sample-within}
use Rattle.metrics.proofs.Moved.{clock-moved}
use Rattle.metrics.proofs.listing.Goals as goal

pub returns-in-Err-clause-room : goal.returns-in-Err-clause-room
returns-in-Err-clause-room c = let f = c.new-file.result in rw (← c.new-file.ensures) (sample-within f.file.now _ f.laid f.octets)

pub returns-in-Err-clause-example : goal.returns-in-Err-clause-example
returns-in-Err-clause-example c = example-holds

pub returns-in-Err-clause-moved : goal.returns-in-Err-clause-moved
returns-in-Err-clause-moved c = let f = c.new-file.result in rw (← c.new-file.ensures) (clock-moved f.file.now f.octets)

pub returns-clause-room : goal.returns-clause-room
returns-clause-room c = let f = c.new-file.result in rw (← c.new-file.ensures) (sample-within f.file.now _ f.laid f.octets)

pub returns-clause-example : goal.returns-clause-example
returns-clause-example c = example-holds

pub returns-clause-moved : goal.returns-clause-moved
returns-clause-moved c = let f = c.new-file.result in rw (← c.new-file.ensures) (clock-moved f.file.now f.octets)
