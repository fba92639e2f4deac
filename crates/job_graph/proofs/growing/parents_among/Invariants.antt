use Rattle.job_graph.proofs.Gathering.{ParentsTo}
use Rattle.job_graph.proofs.growing.parents_among.Given as goal

abbrev pub invariant-loop-number : goal.invariant-loop-number
invariant-loop-number l = ParentsTo l.known l.inputs l.number-iterator l.parents
