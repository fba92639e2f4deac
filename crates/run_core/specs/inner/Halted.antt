-- What came of a run by what its machine waits for.
use Rattle.std.specs.Prelude.{Option, Some, None, Result}
use Rattle.run_rules.specs.declared.outcome.Outcome.{Outcome}
use Rattle.run_rules.specs.declared.outcome.RunFault.{RunFault}
use Rattle.run_core.specs.declared.state.Phase.{Phase}

abbrev pub outcome_in : Phase → Option (Result Outcome RunFault)
outcome_in (Phase.Ended outcome) = Some outcome
outcome_in phase = None
