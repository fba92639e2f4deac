use Rattle.job_graph.specs.Equations.{walker}
use Rattle.run_rules.specs.Scene.{scene_of}
use Rattle.run_rules.proofs.Undone.{held_is_not_computed}
use Rattle.run_rules.proofs.laws.no_held_job_is_computed.Goals as goal

pub returns : goal.returns
returns c = λ setting t f plans job goes planning there is.
    held_is_not_computed (scene_of setting) (λ measures learned. c.known_places_differ.ensures (walker setting.process setting.inputs measures) learned)
    goes planning job there is
