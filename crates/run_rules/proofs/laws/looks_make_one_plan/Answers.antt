use Rattle.run_rules.specs.Plans.{InForce}
use Rattle.run_rules.specs.Scene.{scene_of}
use Rattle.run_rules.proofs.FirstPlans.{only_plan}
use Rattle.run_rules.proofs.laws.looks_make_one_plan.Goals as goal

pub returns : goal.returns
returns c = λ setting t f plans goes looks planning. only_plan (scene_of setting) (InForce (scene_of setting)) goes looks planning
