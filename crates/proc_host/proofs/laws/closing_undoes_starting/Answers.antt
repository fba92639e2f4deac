use Rattle.proc_host.proofs.Running.{without_started}
use Rattle.proc_host.proofs.laws.closing_undoes_starting.Goals as goal

pub returns : goal.returns
returns c = without_started
