use Rattle.job_rows.proofs.Losing.{keeps_budget}
use Rattle.job_rows.proofs.laws.budget_is_kept.Goals as goal

pub returns : goal.returns
returns c = keeps_budget
