use Rattle.std.proofs.lemmas.Bool.{or_parts}
use Rattle.job_graph.specs.Made.{any_made, holds_made}
use Rattle.job_graph.specs.Makers.{any_default}
use Rattle.job_graph.proofs.laws_of_walks.Makers.{maker_learned}
use Rattle.job_graph.specs.Equations.{walker}
use Rattle.run_rules.specs.Scene.{scene_of}
use Rattle.run_rules.proofs.Makers.{makers_before}
use Rattle.run_rules.proofs.laws.makers_are_parents.Goals as goal

pub returns : goal.returns
returns c = λ setting t f plans job maker goes nothing there made.
    makers_before (scene_of setting)
    (record {
      makers = λ measures learned named its at its_maker its_made.
          maker_learned setting.process setting.inputs measures learned
          (λ place. (or_parts (any_made place setting.inputs) (any_default (holds_made place) setting.process) (nothing place)).0)
          (λ place. (or_parts (any_made place setting.inputs) (any_default (holds_made place) setting.process) (nothing place)).1)
          named its its_maker at its_made;
      differ = λ measures learned. c.known_places_differ.ensures (walker setting.process setting.inputs measures) learned;
    })
    goes job there maker made
