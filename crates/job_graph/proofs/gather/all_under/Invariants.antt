use Rattle.std.proofs.Common.{◌≡◌, Some, drop, length, map}
use Rattle.job_graph.specs.Jobs.{all_there}
use Rattle.job_graph.specs.Links.{out_under}
use Rattle.job_graph.specs.inner.Views.{walk_of}
use Rattle.job_graph.proofs.Loops.{put_before}
use Rattle.job_graph.proofs.gather.all_under.Given as goal

abbrev pub invariant-loop-walk : goal.invariant-loop-walk
invariant-loop-walk l = record {
  values : put_before l.values.items (all_there (map (λ w. out_under l.name (Some w.outs)) (map walk_of (drop l.walk-index l.walks))))
      ≡ all_there (map (λ w. out_under l.name (Some w.outs)) (map walk_of l.walks));
  one_each : length l.values.items ≡ l.walk-index;
}
