use Rattle.job_graph.specs.Equations.{walker}
use Rattle.run_rules.specs.Scene.{scene_of}
use Rattle.run_rules.proofs.Undone.{delivered_is_there}
use Rattle.run_rules.proofs.laws.delivered_files_are_at_hand.Goals as goal

pub returns : goal.returns
returns c = λ setting t outputs delivered run job slots there made.
    delivered_is_there (scene_of setting) (λ measures learned. c.known_places_differ.ensures (walker setting.process setting.inputs measures) learned)
    run.goes outputs delivered slots run.ended job there made
