use Rattle.run_given.specs.Named.{no_inputs}
use Rattle.run_given.proofs.Stops.{stop_so}
use Rattle.run_given.proofs.given.with_inputs.Goals as goal

pub returns-in-Err-clause-err : goal.returns-in-Err-clause-err
returns-in-Err-clause-err g c = stop_so _ _ (λ exit end. no_inputs c.args.process c.requires.process end) _ c.in-Err.ensures.err
