-- What several pairs bring about, one after the other.
use Rattle.std.specs.Prelude.{List, [], ◌∷◌}
use Rattle.run_rules.specs.declared.request.Pair.{Pair}
use Rattle.run_rules.specs.Scene.{Scene}
use Rattle.run_rules.specs.Events.{Event, Work, Progress}
use Rattle.run_rules.specs.Steps.{Steps, progress_with}

pub data Leads (s : Scene) : Progress → List Pair → Progress → Type 0 where
  stays : {f : Progress} → Leads s f [] f
  follows : {f g : Progress} {p : Pair} {t : List Pair} {work : Work} {new : List Event} → Steps s f p work new →
      Leads s (progress_with f work new) t g → Leads s f (p ∷ t) g
