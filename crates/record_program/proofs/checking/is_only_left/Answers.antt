use lib.Utf8.{encode}
use Rattle.record_program.specs.Checking as spec
use Rattle.record_program.proofs.AmongNames.{not_left}
use Rattle.record_program.proofs.checking.is_only_left.Goals as goal

pub returns-in-None : goal.returns-in-None
unfolding encode
returns-in-None c = not_left (spec.is_in c.args.folders.now) (spec.is_in c.args.sums.now) c.args.name.now (λ rest is. c.in-None.ensures.cases rest is)
