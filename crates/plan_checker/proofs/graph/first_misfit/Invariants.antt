use Rattle.std.proofs.Common.{◌≡◌, ℕ, ◌<◌, ◌≤◌}
use Rattle.plan_checker.specs.Graph.{entries_below, FitsAt}
use Rattle.plan_checker.specs.declared.graph.TheConstants.{MOST_ENTRIES}
use Rattle.plan_checker.proofs.graph.first_misfit.Given as goal

abbrev pub invariant-loop-number : goal.invariant-loop-number
invariant-loop-number l = record {
  entries : l.entries ≡ entries_below l.vertices l.number;
  few : l.entries ≤ MOST_ENTRIES;
  fit : (k : ℕ) → k < l.number → FitsAt l.vertices k;
}
