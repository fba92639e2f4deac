use Rattle.run_rules.proofs.Evaluating.{finishes}
use Rattle.run_rules.proofs.SuccessCollects.{success_came}
use Rattle.run_rules.proofs.laws.success_has_each_job.Goals as goal

pub returns : goal.returns
returns c = λ setting t outputs delivered run job there.
    success_came setting (λ measures. finishes setting.process setting.inputs measures c.known_places_differ.ensures c.results_learned_each_job.ensures)
    t outputs delivered run job there
