use Rattle.std.proofs.Common.{subst, sym}
use Rattle.std.specs.Prelude.{IfOk, IfSome}
use Rattle.document_links.specs.declared.process.Process.{Process}
use Rattle.document_links.specs.declared.process.Process.TheOpen.{Process-F}
use Rattle.document_links.specs.declared.process.Step.{Step}
use Rattle.document_links.specs.declared.process.Workflow.{Workflow}
use Rattle.job_graph.specs.inner.Nested.{HasBegun}
use Rattle.job_graph.proofs.Inward.{form_is}
use Rattle.job_graph.proofs.nested.begin_process.Goals as goal

pub returns-in-Workflow : goal.returns-in-Workflow
returns-in-Workflow c =
    subst (λ (form : Process-F Process Step Workflow). IfOk c.begin_workflow.result (λ found. IfSome found (HasBegun c.args.facts.now c.args.own.now form c.args.given.now c.args.number c.args.tuple)))
    (sym (form_is c.args.process.now c.in-Workflow.workflow c.in-Workflow.is)) c.begin_workflow.ensures
