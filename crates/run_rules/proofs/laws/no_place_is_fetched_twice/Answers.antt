use Rattle.job_graph.specs.Equations.{walker}
use Rattle.run_rules.specs.Scene.{scene_of}
use Rattle.run_rules.proofs.FetchedOnce.{fetched_once}
use Rattle.run_rules.proofs.laws.no_place_is_fetched_twice.Goals as goal

pub returns : goal.returns
returns c = λ setting t f plans place goes.
    fetched_once (scene_of setting) (λ measures learned. c.known_places_differ.ensures (walker setting.process setting.inputs measures) learned)
    place goes
