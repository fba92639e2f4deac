-- The outputs of a process, as they are kept.
use Rattle.std.specs.Prelude.{Bool, List, cond, is_some, Option, Some, None}
use Rattle.std.specs.List.{list_all}
use Rattle.job_graph.specs.Words.{Fields}
use Rattle.job_graph.specs.Jobs.{Job}
use Rattle.job_graph.specs.Unfold.{Resolved, outputs_at}
use Rattle.job_graph.specs.declared.outcome.Outputs.{Outputs}

abbrev pub where_whole : Bool → Fields → Option Fields
where_whole whole outs = cond whole (Some outs) None

-- the outputs, where they are whole
abbrev pub result_of : Outputs → Option Fields
result_of outputs = where_whole outputs.is_whole outputs.named.items

-- whether the outputs of each of the jobs are known
abbrev pub are_learned : List Resolved → List Job → Bool
are_learned learned jobs = list_all (λ job. is_some (outputs_at learned job.place)) jobs
