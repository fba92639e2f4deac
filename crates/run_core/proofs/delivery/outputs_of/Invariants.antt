use Rattle.std.proofs.Common.{◌≡◌, take}
use Rattle.run_rules.specs.Delivered.{any_file}
use Rattle.job_graph.specs.Words.{last_by_name}
use Rattle.run_core.proofs.delivery.outputs_of.Given as goal

abbrev pub invariant-loop-output : goal.invariant-loop-output
invariant-loop-output l = record {
  values : l.values ≡ last_by_name (take l.output-index l.outputs);
  found : l.found ≡ any_file (take l.output-index l.outputs);
}
