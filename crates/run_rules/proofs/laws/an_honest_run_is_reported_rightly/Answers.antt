use Rattle.run_rules.proofs.Evaluating.{evaluates}
use Rattle.run_rules.proofs.Reported.{reports_rightly}
use Rattle.run_rules.proofs.laws.an_honest_run_is_reported_rightly.Goals as goal

pub returns : goal.returns
returns c = λ setting t end run world apart honest.
    reports_rightly setting world (λ measures. evaluates setting.process setting.inputs measures apart
    c.known_jobs_agree.ensures c.results_are_eval.ensures c.faults_fail_eval.ensures c.failed_jobs_fail_eval.ensures world) t end run honest
