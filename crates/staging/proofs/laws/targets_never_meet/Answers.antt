use Rattle.staging.proofs.Copies.{targets_apart, each_copied}
use Rattle.staging.proofs.laws.targets_never_meet.Goals as goal

pub returns : goal.returns
returns c = record { apart = targets_apart; each = each_copied }
