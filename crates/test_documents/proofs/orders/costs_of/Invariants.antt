use Rattle.std.specs.Prelude.{◌≡◌, All, length}
use Rattle.job_graph.specs.PresentJobGraph.{AreWithin}
use Rattle.test_documents.proofs.orders.costs_of.Given as goal

abbrev pub invariant-loop-number : goal.invariant-loop-number
invariant-loop-number l = record {
  count : length l.costs.items ≡ l.number;
  within : All AreWithin l.costs.items;
}
