use Rattle.job_graph.proofs.Inward.{reverse_push}
use Rattle.job_graph.proofs.nested.with_inner.Goals as goal

pub returns-clause-nested : goal.returns-clause-nested
returns-clause-nested c = reverse_push c.args.deeper.nested _ _ c.in_ok-push.ensures.ok
