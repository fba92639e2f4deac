-- What holds of the work that discards archives, whichever they are.
use Rattle.std.proofs.Common.{ℕ, List, [], ◌∷◌}
use Rattle.job_graph.specs.Words.{JobPlace}
use Rattle.run_rules.specs.Events.{Work, nothing_due, discard_due}
use Rattle.run_rules.specs.Steps.{work_to_discard}

pub by_discards : (P : Work → Type 0) (place : JobPlace) (keys : List (List ℕ)) → P nothing_due → ((key : List ℕ) (more : List (List ℕ)) → P (discard_due place key more)) →
    P (work_to_discard place keys)
by_discards P place [] none some = none
by_discards P place (key ∷ more) none some = some key more
