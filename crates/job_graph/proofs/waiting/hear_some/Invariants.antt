use Rattle.std.proofs.Common.{drop}
use Rattle.job_graph.specs.inner.Elements.{stands_in}
use Rattle.job_graph.proofs.Hearing.{Hearing}
use Rattle.job_graph.proofs.waiting.hear_some.Given as goal

abbrev pub invariant-loop-number : goal.invariant-loop-number
invariant-loop-number l = Hearing l.facts l.place l.inputs l.steps l.env (λ n s. stands_in n l.row) (λ n s. stands_in n (drop l.number-index l.row)) l.fn.met l.met
