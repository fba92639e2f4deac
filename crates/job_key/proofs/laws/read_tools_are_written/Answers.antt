use Rattle.job_key.proofs.ReadTools as read_tools
use Rattle.job_key.proofs.laws.read_tools_are_written.Goals as goal

pub returns : goal.returns
returns c = record { document = read_tools.documents_are_written; anywhere = read_tools.read_tools_are_written }
