use Rattle.run_given.specs.Named.{no_process}
use Rattle.run_given.proofs.Stops.{stop_so}
use Rattle.run_given.proofs.given.given_of.Goals as goal

pub returns-in-Err-clause-err : goal.returns-in-Err-clause-err
returns-in-Err-clause-err g c = stop_so _ _ (λ exit end. no_process end) _ c.in-Err.ensures.err
