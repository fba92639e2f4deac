use Rattle.run_given.specs.Sources.{bad_inputs}
use Rattle.run_given.proofs.inputs.refused.Goals as goal

pub returns-in_default : goal.returns-in_default
returns-in_default c = bad_inputs _ (c.requires c.in_default.not-OutOfMemory)
