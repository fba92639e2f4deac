use Rattle.plan_checker.proofs.ReadBack.{tell}
use Rattle.plan_checker.proofs.laws.texts_tell_certificates.Goals as goal

pub returns : goal.returns
returns c = tell
