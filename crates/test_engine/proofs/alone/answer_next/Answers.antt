use Rattle.run_rules.specs.Answers.{by_host, by_record}
use Rattle.test_engine.proofs.alone.answer_next.Goals as goal

pub returns-in_ok-answer_to-in-Host : goal.returns-in_ok-answer_to-in-Host
returns-in_ok-answer_to-in-Host c = rw c.in-Host.is (by_host _ _ _ c.in_ok-answer_to-in-Host.ensures)

pub returns-in-Record : goal.returns-in-Record
returns-in-Record c = rw c.in-Record.is (by_record _ _ _ c.told.ensures)
