use Rattle.run_rules.specs.Plans.{InForce}
use Rattle.run_rules.specs.Scene.{scene_of}
use Rattle.run_rules.proofs.KeyOf.{asked_under_key, next_under_key}
use Rattle.run_rules.proofs.laws.keys_are_those_of_the_jobs.Goals as goal

pub returns-clause-asked : goal.returns-clause-asked
returns-clause-asked c = λ setting t f plans pair goes answers there. asked_under_key (scene_of setting) (InForce (scene_of setting)) goes answers pair there

pub returns-clause-next : goal.returns-clause-next
returns-clause-next c = λ setting t f plans request goes answers may. next_under_key (scene_of setting) (InForce (scene_of setting)) goes answers request may
