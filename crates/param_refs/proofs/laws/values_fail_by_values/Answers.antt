use Rattle.param_refs.proofs.Values.{fails_by_values}
use Rattle.param_refs.proofs.laws.values_fail_by_values.Goals as goal

pub returns : goal.returns
returns c = fails_by_values
