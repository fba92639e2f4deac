-- Jobs of one scattered step, beside one another.
use Rattle.std.specs.Prelude.{◌&&◌, Bool, true, false, cond, not, List, [], ◌∷◌, bytes_eq, is_some}
use Rattle.std.specs.List.{list_any}
use Rattle.job_graph.specs.Words.{JobPlace}
use Rattle.job_graph.specs.Jobs.{Job}
use Rattle.job_graph.specs.Unfold.{Resolved, outputs_at}

abbrev pub are_at_end : JobPlace → JobPlace → Bool
are_at_end [] [] = true
are_at_end _ _ = false

-- whether two places differ in the tuple of their last segments alone
abbrev pub is_beside : JobPlace → JobPlace → Bool
is_beside (s ∷ place) (t ∷ other) = bytes_eq s.step t.step && cond (bytes_eq s.index t.index) (is_beside place other) (are_at_end place other)
is_beside _ _ = false

-- whether another place is beside the place, and the outputs of the job there were not learned
abbrev pub is_open_beside : List Resolved → JobPlace → JobPlace → Bool
is_open_beside learned place other = is_beside place other && not (is_some (outputs_at learned other))

-- whether one of the jobs is at such a place
abbrev pub is_one_open : List Resolved → JobPlace → List Job → Bool
is_one_open learned place jobs = list_any (λ job. is_open_beside learned place job.place) jobs
