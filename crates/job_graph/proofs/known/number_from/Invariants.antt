use Rattle.std.proofs.Common.{◌≡◌, drop}
use Rattle.std.specs.List.{list_any}
use Rattle.job_graph.specs.KnownJobs.{jobs_in}
use Rattle.job_graph.specs.Unfold.{is_at}
use Rattle.job_graph.proofs.known.number_from.Given as goal

abbrev pub invariant-loop-number : goal.invariant-loop-number
invariant-loop-number l = list_any (is_at l.place) (jobs_in (drop l.first l.known)) ≡ list_any (is_at l.place) (jobs_in (drop l.number l.known))
