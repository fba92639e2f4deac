use Rattle.run_rules.specs.Answers.{by_host, by_record}
use Rattle.test_engine.proofs.generated.answer_with.Goals as goal

pub returns-in_ok-answer_of_host-in-Host : goal.returns-in_ok-answer_of_host-in-Host
returns-in_ok-answer_of_host-in-Host c = rw c.in-Host.is (by_host _ _ _ c.in_ok-answer_of_host-in-Host.ensures)

pub returns-in_ok-told-in-Record : goal.returns-in_ok-told-in-Record
returns-in_ok-told-in-Record c = rw c.in-Record.is (by_record _ _ _ c.in_ok-told-in-Record.ensures)
