use Rattle.job_graph.specs.Equations.{walker}
use Rattle.run_rules.specs.Scene.{scene_of}
use Rattle.run_rules.proofs.Undone.{is_resolved}
use Rattle.run_rules.proofs.laws.nothing_is_left_undone.Goals as goal

pub returns : goal.returns
returns c = λ setting t f plans job slots goes busy landed there.
    is_resolved (scene_of setting) (λ measures learned. c.known_places_differ.ensures (walker setting.process setting.inputs measures) learned)
    goes slots busy landed job there
