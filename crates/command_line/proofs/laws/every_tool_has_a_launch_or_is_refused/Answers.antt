use Rattle.command_line.proofs.Decided.{launch_or_refusal}
use Rattle.command_line.proofs.laws.every_tool_has_a_launch_or_is_refused.Goals as goal

pub returns : goal.returns
returns c = launch_or_refusal
