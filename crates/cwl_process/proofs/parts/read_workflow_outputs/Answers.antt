use Rattle.std.proofs.Common.{◌≡◌, IfOk, codes, subst}
use Rattle.serde_json.specs.View.{view}
use Rattle.document_table.specs.declared.form.Kind.TheVariants as kind
use Rattle.cwl_process.specs.Parameters.{workflow_output_in}
use Rattle.cwl_process.specs.Tools.{entries_at}
use Rattle.cwl_process.proofs.parts.read_workflow_outputs.Goals as goal

pub returns : goal.returns
returns c =
    subst (λ id. IfOk c.entries_at.result (λ outputs. outputs ≡ entries_at kind.WorkflowOutput (workflow_output_in id) (codes "outputs") (view c.args.value.now)))
    c.own_id.ensures c.entries_at.ensures
