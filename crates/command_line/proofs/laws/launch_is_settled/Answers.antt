use Rattle.command_line.proofs.Settled.{launch_same}
use Rattle.command_line.proofs.laws.launch_is_settled.Goals as goal

pub returns : goal.returns
returns c = launch_same
