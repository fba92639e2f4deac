use Rattle.std.proofs.Common.{◌≡◌, ◌∙◌, List, Ok, ap, subst, sym}
use Rattle.cwl_process.specs.declared.workflow.WorkflowInput.{WorkflowInput}
use Rattle.document_links.specs.declared.process.Workflow.{out-Workflow}
use Rattle.job_graph.specs.Inputs.{workflow_inputs_for}
use Rattle.job_graph.specs.Words.{Name}
use Rattle.job_graph.specs.inner.Rounds.{IsSettled}
use Rattle.job_graph.specs.inner.Views.{walk_of}
use Rattle.job_graph.proofs.Inward.{began}
use Rattle.job_graph.proofs.nested.begin_workflow.Goals as goal

pub returns-in_ok-with_inner-in-Ok : goal.returns-in_ok-with_inner-in-Ok
returns-in_ok-with_inner-in-Ok c =
    let hands : workflow_inputs_for c.args.facts.now.measures (out-Workflow c.args.workflow.now).inputs c.args.given.now ≡ Ok c.in-Ok.inputs =
    ap (λ (inputs : List (Name × WorkflowInput)). workflow_inputs_for c.args.facts.now.measures inputs c.args.given.now) (sym c.as_slice.ensures.entries) ∙ sym c.in_ok-inputs.ensures ∙ c.in-Ok.is in
    began c.args.facts.now c.args.own.now c.args.workflow.now c.args.given.now c.in-Ok.inputs hands c.as_slice-outputs.result.now c.as_slice-outputs.ensures.entries
    c.in_ok-walked-in-Ok-2.walked (ap walk_of c.in_ok-walked-in-Ok-2.ensures.walk ∙ c.in_ok-walked-in-Ok.ensures.walk)
    (subst (IsSettled c.args.facts.now c.args.own.now c.in-Ok.inputs (out-Workflow c.args.workflow.now).steps) (sym c.in_ok-walked-in-Ok-2.ensures.env) c.in_ok-walked-in-Ok.ensures.env)
    c.in_ok-walked-in-Ok-2.ensures.counts c.new.result c.new.ensures c.with_nested.result c.with_nested.ensures
    c.in_ok-readers-in-Ok.readers c.in_ok-readers-in-Ok.ensures c.args.number c.args.tuple _ c.in_ok-with_inner-in-Ok.ensures.walk c.in_ok-with_inner-in-Ok.ensures.nested
