use Rattle.job_graph.proofs.Reading.{IsTableTo}
use Rattle.job_graph.proofs.readers.Readers.of.Given as goal

abbrev pub invariant-loop-number : goal.invariant-loop-number
invariant-loop-number l = IsTableTo l.entries l.number l.readers
