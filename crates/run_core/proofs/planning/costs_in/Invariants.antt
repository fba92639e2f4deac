use Rattle.std.specs.Prelude.{All}
use Rattle.std.proofs.Common.{◌≡◌, vec_capacity, vec_len}
use Rattle.job_graph.specs.PresentJobGraph.{AreWithin}
use Rattle.run_core.specs.inner.Course.{past_of}
use Rattle.run_core.specs.inner.Planning.{AreCosts}
use Rattle.run_core.proofs.planning.costs_in.Given as goal

abbrev pub invariant-loop-number : goal.invariant-loop-number
invariant-loop-number l = record {
  costs : AreCosts l.given (past_of l.course) l.number l.costs.items;
  within : All AreWithin l.costs.items;
  filled : vec_len l.costs ≡ l.number;
  room : vec_capacity l.costs ≡ l.count;
}
