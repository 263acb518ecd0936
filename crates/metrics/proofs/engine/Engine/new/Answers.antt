-- All tables are zeros. Assumes nothing.
use Rattle.metrics.proofs.EngineState.{engine-start}
use Rattle.metrics.proofs.engine.Engine.new.Goals as goal

pub returns : goal.returns
returns c = λ d. rw (c.new.ensures, c.new-2.ensures) (engine-start d)
