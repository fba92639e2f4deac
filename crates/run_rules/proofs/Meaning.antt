-- What the ends of a lone tool say of computing it.
use Rattle.std.proofs.Common.{◌≡◌, [], Some, None, Ok, option_map, refl, ap}
use Rattle.cwl_value.specs.Erased.{fields_erased}
use Rattle.cwl_process.specs.declared.tool.Tool.{Tool}
use Rattle.job_graph.specs.Eval.{World, eval_by}
use Rattle.job_graph.specs.Jobs.{tool_walk, all_named, outs_of, output_names}
use Rattle.job_graph.specs.Made.{fields_made}
use Rattle.job_graph.specs.Words.{Fields}
use Rattle.job_key.specs.Key.{key}

module _ (tool : Tool) (inputs : Fields) (world : World) where
  pub fails : world (key tool inputs) ≡ None → eval_by key world (tool_walk tool [] (Ok inputs)) ≡ None
  fails none = rw none refl

  pub gives : (named outputs : Fields) → world (key tool inputs) ≡ Some named →
      all_named (outs_of (output_names tool) (Some (fields_made [] named))) ≡ Some outputs →
      eval_by key world (tool_walk tool [] (Ok inputs)) ≡ Some (fields_erased outputs)
  gives named outputs some result = rw some (ap (option_map fields_erased) result)
