use Rattle.cwl_process.proofs.FilelessDefaults.{no_default_fault}
use Rattle.cwl_process.proofs.laws.nothing_is_wrong_with_fileless_defaults.Goals as goal

pub returns : goal.returns
returns c = no_default_fault
