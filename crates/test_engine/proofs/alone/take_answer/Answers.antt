use Rattle.run_core.specs.Core.{answers}
use Rattle.test_engine.proofs.alone.take_answer.Goals as goal

pub take-requires : goal.take-requires
take-requires c = answers c.requires

pub returns : goal.returns
returns c = c.take.ensures.took c.requires
