-- What is unfolded so far: an `Unfolding` as its callers see it.
use Rattle.std.specs.Prelude.{List, [], Option}
use Rattle.document_links.specs.declared.process.Process.{Process}
use Rattle.input_files.specs.Measured.{Measures}
use Rattle.job_graph.specs.Words.{Fields}
use Rattle.job_graph.specs.Equations.{meaning_of}
use Rattle.job_graph.specs.Jobs.{Job, Walker}
use Rattle.job_graph.specs.Unfold.{Fault, Resolved}

-- a process, what is handed to it, and its input files as they were measured
pub record Task : Type 0 where
  pub process : Process
  pub handed : Fields
  pub measures : Measures

-- the places that were learned, in this order; the jobs that are known by them, the process's outputs once all jobs have ended, and
-- those of its outputs that have a value; and the fault that was met since, where one was
pub record UnfoldedSoFar : Type 0 where
  pub task : Task
  pub learned : List Resolved
  pub known : List Job
  pub result : Option Fields
  pub outs : Fields
  pub refused : Option Fault

-- the walk that it makes: through its process from the root, on what is handed to it
abbrev pub walks_of : UnfoldedSoFar → Walker
walks_of held made = meaning_of held.task.measures made held.task.process [] held.task.handed
