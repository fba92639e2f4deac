use Rattle.std.proofs.lemmas.Result.{IfOk-weaker}
use Rattle.serde_json.specs.View.{view}
use Rattle.document_links.specs.Documents.{IsTogether}
use Rattle.document_links.specs.ProcessOf.{IsItsProcess}
use Rattle.document_links.proofs.Related.{linked_is_process}
use Rattle.document_links.proofs.reading.read_process.Goals as goal

pub returns-clause-process : goal.returns-clause-process
returns-clause-process c =
    let d = view c.in_ok-found.found.now.json in
    IfOk-weaker c.together.result (IsTogether d c.args.base.now c.args.docs.now) (IsItsProcess c.args.document.now c.args.base.now c.args.docs.now)
    (λ process is. linked_is_process c.args.document.now c.args.base.now c.args.docs.now process (d, c.in_ok-found.ensures.ok, is))
    c.together.ensures.ok
