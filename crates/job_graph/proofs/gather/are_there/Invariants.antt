use Rattle.std.proofs.Common.{◌≡◌, Some, drop, map}
use Rattle.std.specs.Prelude.{is_some}
use Rattle.job_graph.specs.Jobs.{all_there}
use Rattle.job_graph.specs.Links.{out_under}
use Rattle.job_graph.specs.inner.Views.{walk_of}
use Rattle.job_graph.proofs.gather.are_there.Given as goal

abbrev pub invariant-loop-walk : goal.invariant-loop-walk
invariant-loop-walk l =
    is_some (all_there (map (λ w. out_under l.name (Some w.outs)) (map walk_of (drop l.walk-index l.walks))))
    ≡ is_some (all_there (map (λ w. out_under l.name (Some w.outs)) (map walk_of l.walks)))
