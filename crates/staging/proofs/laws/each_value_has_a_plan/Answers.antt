use Rattle.staging.proofs.Planned.{group_folder, value_plan}
use Rattle.staging.proofs.laws.each_value_has_a_plan.Goals as goal

pub returns : goal.returns
returns c = record { folders = group_folder; plans = value_plan }
