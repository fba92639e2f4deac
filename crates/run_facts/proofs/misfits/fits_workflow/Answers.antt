use Rattle.std.proofs.Common.{rules}
use Rattle.run_facts.specs.Misfits.{fits_workflow}
use Rattle.run_facts.proofs.misfits.fits_workflow.Goals as goal

pub returns : goal.returns
unfolding fits_workflow
returns c = search rules
