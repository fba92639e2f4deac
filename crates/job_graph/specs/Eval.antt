-- What computing every job gives, in a world where equal jobs always give equal outputs.
use Rattle.std.specs.Prelude.{Option, option_map}
use Rattle.cwl_value.specs.Erased.{fields_erased}
use Rattle.cwl_process.specs.declared.tool.Tool.{Tool}
use Rattle.document_links.specs.declared.process.Process.{Process}
use Rattle.input_files.specs.Measured.{Measures}
use Rattle.job_graph.specs.Words.{Name, Fields}
use Rattle.job_graph.specs.Jobs.{Made, Walker, result}
use Rattle.job_graph.specs.Equations.{walker}
use Rattle.job_graph.specs.Made.{fields_made}

-- what decides a job's outputs: a text
abbrev pub Key : Type 0
Key = Name

-- what each key's job gives: its named outputs, or none where it fails
abbrev pub World : Type 0
World = Key → Option Fields

-- for any way to tell jobs apart
module _ (key : Tool → Fields → Key) (world : World) where
  -- the outputs that a world gives each job, as the rest of the process sees them
  abbrev pub made_in : Made
  made_in job = option_map (fields_made job.place) (world (key job.tool job.inputs))

  -- the result of a walk in a world, without places; none where a job or an equation fails
  abbrev pub eval_by : Walker → Option Fields
  eval_by walks = option_map fields_erased (result walks made_in)

  -- the outputs of a process on its inputs, whose files were measured so, without places; none where a job or an equation fails
  abbrev pub eval : Process → Fields → Measures → Option Fields
  eval process inputs measures = eval_by (walker process inputs measures)
