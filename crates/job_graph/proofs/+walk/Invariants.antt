use Rattle.std.proofs.Common.{◌≡◌, ◌-◌, drop, length, map, take}
use Rattle.std.specs.List.{flat_map}
use Rattle.job_graph.specs.Equations.{instance, step_place, step_walk}
use Rattle.job_graph.specs.Scatter.{at_tuple}
use Rattle.job_graph.specs.inner.Levels.{step_of, steps_of}
use Rattle.job_graph.specs.inner.Rounds.{AllMeet, Holds, count}
use Rattle.job_graph.specs.inner.Views.{met_of, walk_of}
use Rattle.job_graph.proofs.Settling.{Going}
use Rattle.job_graph.proofs.+walk.Given as goal

abbrev pub invariant-step::instances-loop-tuple : goal.invariant-step::instances-loop-tuple
invariant-step::instances-loop-tuple l = record {
  one_each : length l.walks.items ≡ l.tuple-index;
  walks : map walk_of l.walks.items ≡ map (λ tuple. instance (step_of l.facts l.step) (step_place l.place l.id tuple)
      (at_tuple (step_of l.facts l.step).scatter tuple l.values)) (take l.tuple-index l.tuples);
}

abbrev pub invariant-workflow::steps_met-loop-number : goal.invariant-workflow::steps_met-loop-number
invariant-workflow::steps_met-loop-number l = record {
  met : map met_of l.met ≡ flat_map (λ s. (step_walk l.place l.inputs l.env s).met) (steps_of l.facts (take l.number l.entries));
  known : AllMeet l.facts l.place l.inputs l.env (drop l.number l.entries) (drop l.number l.known.items);
  as_many : length l.known.items ≡ length l.entries;
}

abbrev pub invariant-rounds::settle_steps-loop-settled : goal.invariant-rounds::settle_steps-loop-settled
invariant-rounds::settle_steps-loop-settled l = Holds l.facts l.place l.inputs l.steps l.settled.outs l.settled.met.items

abbrev pub decreases-rounds::settle_steps-loop-settled : goal.decreases-rounds::settle_steps-loop-settled
decreases-rounds::settle_steps-loop-settled l = length l.steps - count l.settled.outs l.steps

abbrev pub invariant-rounds::settle_more-loop-number : goal.invariant-rounds::settle_more-loop-number
invariant-rounds::settle_more-loop-number l = Going l.facts l.place l.inputs l.entries l.initial.settled.outs l.number l.more l.settled.outs l.settled.met.items
