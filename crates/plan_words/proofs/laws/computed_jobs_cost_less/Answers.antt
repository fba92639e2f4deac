use Rattle.plan_words.proofs.OtherMarks.{computed_costs_less}
use Rattle.plan_words.proofs.laws.computed_jobs_cost_less.Goals as goal

pub returns : goal.returns
returns c = computed_costs_less
