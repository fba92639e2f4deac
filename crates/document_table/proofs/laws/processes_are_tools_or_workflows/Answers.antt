use Rattle.document_table.proofs.Roots.{root_is_process}
use Rattle.document_table.proofs.laws.processes_are_tools_or_workflows.Goals as goal

pub returns-clause-document : goal.returns-clause-document
returns-clause-document c = root_is_process
