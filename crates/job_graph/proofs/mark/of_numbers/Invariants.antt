use Rattle.std.proofs.Common.{◌≡◌, fold, take}
use Rattle.job_graph.specs.inner.Marks.{mixed}
use Rattle.job_graph.proofs.mark.of_numbers.Given as goal

abbrev pub invariant-loop-number : goal.invariant-loop-number
invariant-loop-number l = l.mark ≡ fold mixed l.start (take l.number-index l.numbers)
