use Rattle.std.proofs.Common.{◌≡◌, ◌∙◌, ◌≤◌, List, [], drop, length, ap, sym, subst, bytes_eq, drop_of_length-le}
use Rattle.std.specs.List.{IsDistinct, list_all}
use Rattle.std.specs.Map.{keys_of}
use Rattle.document_links.specs.declared.process.Step.{Step}
use Rattle.document_links.specs.declared.process.Workflow.{out-Workflow}
use Rattle.job_graph.specs.Words.{Name}
use Rattle.job_graph.proofs.laws_of_walks.Places.{inside_differs, seen_workflow}
use Rattle.job_graph.proofs.ids.+ids.Goals as goal

pub see_steps-returns : goal.see_steps-returns
see_steps-returns t c =
    let steps : List (Name × Step) = (out-Workflow c.args.workflow.now).steps in
    let past : length c.as_slice-steps.result.now ≤ c.loop-entry.entry-index = c.loop-entry-test.false in
    let none : drop c.loop-entry.entry-index c.as_slice-steps.result.now ≡ [] = drop_of_length-le c.as_slice-steps.result.now past in
    seen_workflow c.args.workflow.now (subst (λ (xs : List (Name × Step)). IsDistinct bytes_eq (keys_of xs)) c.as_slice-steps.ensures.entries c.as_slice-steps.ensures.ids)
    (sym c.loop-entry.invariant ∙ ap (list_all inside_differs) none)
