use Rattle.std.proofs.Common.{◌≡◌, ◌++◌, drop, map}
use Rattle.std.specs.List.{zip}
use Rattle.job_graph.specs.inner.Ended.{needed_by}
use Rattle.job_graph.proofs.present.needed_for.Given as goal

abbrev pub invariant-loop-number : goal.invariant-loop-number
invariant-loop-number l =
    l.needed.items ++ map (needed_by l.makers) (zip (drop l.number l.ended) (drop l.number l.known)) ≡ map (needed_by l.makers) (zip l.ended l.known)
