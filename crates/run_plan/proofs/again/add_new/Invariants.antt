use Rattle.std.proofs.Common.{◌≡◌, take}
use Rattle.plan_keeper.specs.Kept.{IsKeptApart}
use Rattle.run_plan.specs.inner.Again.{vertices_of}
use Rattle.run_plan.proofs.again.add_new.Given as goal

abbrev pub invariant-loop-number : goal.invariant-loop-number
invariant-loop-number l = record {
  kept : IsKeptApart l.made;
  first : l.made.graph ≡ take l.number (vertices_of l.known l.costs l.needed);
}
