-- The jobs that are known.
use Rattle.std.specs.Prelude.{List, [], Option, Some, None}
use Rattle.job_graph.specs.Jobs.{Job}
use Rattle.job_graph.specs.declared.unfolding.Unfolding.{Unfolding}

-- by number
abbrev pub known_in : Option Unfolding → List Job
known_in None = []
known_in (Some kept) = kept.known
