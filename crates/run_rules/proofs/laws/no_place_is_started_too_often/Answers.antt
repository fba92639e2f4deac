use Rattle.run_rules.specs.Scene.{scene_of}
use Rattle.run_rules.proofs.StartedFew.{started_few}
use Rattle.run_rules.proofs.laws.no_place_is_started_too_often.Goals as goal

pub returns : goal.returns
returns c = λ setting t f plans place goes rises. started_few (scene_of setting) place goes rises
