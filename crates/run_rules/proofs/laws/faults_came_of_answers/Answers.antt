use Rattle.run_rules.specs.Scene.{scene_of}
use Rattle.run_rules.proofs.Answered.{all_of, end_of_answer, note_of_answer}
use Rattle.run_rules.proofs.laws.faults_came_of_answers.Goals as goal

pub returns-clause-ends : goal.returns-clause-ends
returns-clause-ends c = λ setting t end run. end_of_answer (scene_of setting) t run.happened run.plans.marks end run.ended (all_of (scene_of setting) _ run.goes)

pub returns-clause-notes : goal.returns-clause-notes
returns-clause-notes c = λ setting t f plans note goes there. note_of_answer (scene_of setting) _ goes note there
