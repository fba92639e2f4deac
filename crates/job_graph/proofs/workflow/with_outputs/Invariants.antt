use Rattle.std.proofs.Common.{◌≡◌, ◌++◌, take, map}
use Rattle.std.specs.List.{flat_map}
use Rattle.job_graph.specs.Equations.{fault_at}
use Rattle.job_graph.specs.Links.{given, output_value}
use Rattle.job_graph.specs.inner.Views.{met_of}
use Rattle.job_graph.proofs.workflow.with_outputs.Given as goal

abbrev pub invariant-loop-output : goal.invariant-loop-output
invariant-loop-output l = record {
  met : map met_of l.walk.met ≡ map met_of l.fn.met ++ flat_map (λ o. fault_at l.place (output_value l.inputs l.env o.1.links)) (take l.output-index l.outputs);
  outs : l.walk.outs ≡ map (λ o. (o.0, given (output_value l.inputs l.env o.1.links))) (take l.output-index l.outputs);
}
