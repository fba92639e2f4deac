use Rattle.run_rules.specs.Answers.{by_host}
use Rattle.test_engine.proofs.giving_up.end_asked_for.Goals as goal

pub returns-in_ok-end_of_one-in-Host : goal.returns-in_ok-end_of_one-in-Host
returns-in_ok-end_of_one-in-Host c = rw c.in-Host.is (by_host _ _ _ c.in_ok-end_of_one-in-Host.ensures)
