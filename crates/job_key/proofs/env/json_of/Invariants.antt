use Rattle.std.proofs.Common.{◌≡◌, take, map}
use Rattle.serde_json.specs.View.{view}
use Rattle.job_key.specs.Key.{variable_json}
use Rattle.job_key.proofs.env.json_of.Given as goal

abbrev pub invariant-loop-variable : goal.invariant-loop-variable
invariant-loop-variable l = map view l.list.items ≡ map variable_json (take l.variable-index l.variables)
