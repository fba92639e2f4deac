use Rattle.std.proofs.Common.{◌≡◌, drop, find, map}
use Rattle.job_graph.specs.Words.{is_same_place}
use Rattle.job_graph.specs.inner.Views.{resolved_of}
use Rattle.job_graph.proofs.learned.outputs_among.Given as goal

abbrev pub invariant-loop-resolved : goal.invariant-loop-resolved
invariant-loop-resolved l =
    find (λ r. is_same_place r.place l.place) (map resolved_of l.learned)
    ≡ find (λ r. is_same_place r.place l.place) (map resolved_of (drop l.resolved-index l.learned))
