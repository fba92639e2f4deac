use Rattle.command_line.proofs.Settled.{launch_excludes}
use Rattle.command_line.proofs.laws.launch_excludes_refusal.Goals as goal

pub returns : goal.returns
returns c = launch_excludes
