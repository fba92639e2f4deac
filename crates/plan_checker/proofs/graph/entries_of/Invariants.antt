use Rattle.std.proofs.Common.{◌≡◌}
use Rattle.plan_checker.specs.Graph.{entries_below}
use Rattle.plan_checker.proofs.graph.entries_of.Given as goal

abbrev pub invariant-loop-vertex : goal.invariant-loop-vertex
invariant-loop-vertex l = l.entries ≡ entries_below l.vertices l.vertex-index
