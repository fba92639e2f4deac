use Rattle.cwl_process.proofs.KeptTools as kept_tools
use Rattle.cwl_process.proofs.laws.written_tells_tools_apart.Goals as goal

pub returns : goal.returns
returns c = kept_tools.written_tells_tools_apart
