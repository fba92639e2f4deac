use Rattle.std.proofs.Common.{◌≡◌, ◌++◌, take}
use Rattle.job_graph.specs.Paths.{paths_in_steps}
use Rattle.job_graph.proofs.paths.+paths.Given as goal

abbrev pub invariant-push_steps-loop-step : goal.invariant-push_steps-loop-step
invariant-push_steps-loop-step l = l.paths ≡ l.initial.paths ++ paths_in_steps (take l.step-index l.step-items)
