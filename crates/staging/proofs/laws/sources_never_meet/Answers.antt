use Rattle.staging.proofs.Together.{sources_apart, each_placed, one_folder}
use Rattle.staging.proofs.laws.sources_never_meet.Goals as goal

pub returns : goal.returns
returns c = record { apart = sources_apart; each = each_placed; one = one_folder }
