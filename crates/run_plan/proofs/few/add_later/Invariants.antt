use Rattle.std.proofs.Common.{◌≡◌, ◌+◌, ◌++◌, length, map, take}
use Rattle.plan_keeper.specs.Kept.{IsKeptApart}
use Rattle.run_plan.specs.inner.Again.{vertices_of}
use Rattle.run_plan.specs.Touched.{costs_in}
use Rattle.run_plan.proofs.few.add_later.Given as goal

abbrev pub invariant-loop-index : goal.invariant-loop-index
invariant-loop-index l = record {
  kept : IsKeptApart l.made;
  first : l.made.graph ≡ take (length l.initial.made.graph + l.index) (vertices_of l.known (map costs_in l.initial.made.graph ++ l.later) l.needed);
}
