use Rattle.run_rules.proofs.AcceptedResult.{has_result}
use Rattle.run_rules.proofs.laws.accepted_processes_give_results.Goals as goal

pub returns : goal.returns
returns c = has_result
