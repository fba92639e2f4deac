use Rattle.proc_host.proofs.Failures.{failures_more}
use Rattle.proc_host.proofs.laws.failures_count_faults.Goals as goal

pub returns : goal.returns
returns c = failures_more
