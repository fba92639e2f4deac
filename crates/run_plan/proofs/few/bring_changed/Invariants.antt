use Rattle.std.specs.Prelude.{◌↔◌, drop}
use Rattle.std.proofs.Common.{◌≡◌, ◌⊎◌, ℕ, length, map, take}
use Rattle.plan_checker.specs.Graph.{vertex}
use Rattle.plan_keeper.specs.Kept.{IsKeptApart}
use Rattle.run_plan.specs.Brought.{AreFreeing}
use Rattle.run_plan.specs.Touched.{costs_in, patched}
use Rattle.run_plan.specs.inner.Flagged.{HaveParents, IsFreedAs}
use Rattle.run_plan.proofs.few.bring_changed.Given as goal

abbrev pub invariant-loop-one : goal.invariant-loop-one
invariant-loop-one l = record {
  kept : IsKeptApart l.made;
  count : length l.made.graph ≡ length l.initial.made.graph;
  parents : HaveParents l.known l.made.graph;
  costs : map costs_in l.made.graph ≡ patched (map costs_in l.initial.made.graph) (take l.one-index l.changed);
  still : AreFreeing (map costs_in l.initial.made.graph) l.changed ↔ AreFreeing (map costs_in l.made.graph) (drop l.one-index l.changed);
  freed : (n : ℕ) → (vertex l.made.graph n ≡ vertex l.initial.made.graph n) ⊎ IsFreedAs l.needed l.made.graph n;
}
