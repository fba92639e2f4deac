use Rattle.run_rules.proofs.Few.{few}
use Rattle.run_rules.proofs.laws.a_lone_tool_is_within_limits.Goals as goal

pub returns : goal.returns
returns c = few
