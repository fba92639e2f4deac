use Rattle.std.proofs.Common.{◌≡◌, drop}
use Rattle.std.specs.List.{list_all}
use Rattle.document_links.specs.declared.process.Workflow.{out-Workflow}
use Rattle.job_graph.proofs.laws_of_walks.Places.{inside_differs}
use Rattle.job_graph.proofs.ids.+ids.Given as goal

abbrev pub invariant-see_steps-loop-entry : goal.invariant-see_steps-loop-entry
invariant-see_steps-loop-entry l = list_all inside_differs (drop l.entry-index l.steps) ≡ list_all inside_differs (out-Workflow l.fn.workflow).steps
