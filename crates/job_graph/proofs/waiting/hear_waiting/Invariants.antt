use Rattle.std.proofs.Common.{drop}
use Rattle.job_graph.specs.inner.Going.{reads_one}
use Rattle.job_graph.proofs.Hearing.{Hearing}
use Rattle.job_graph.proofs.waiting.hear_waiting.Given as goal

abbrev pub invariant-loop-id : goal.invariant-loop-id
invariant-loop-id l = Hearing l.facts l.place l.inputs l.steps l.env (λ n s. reads_one l.changed s.1) (λ n s. reads_one (drop l.id-index l.changed) s.1) l.fn.met l.met
