use Rattle.std.proofs.Common.{◌≡◌, drop, map}
use Rattle.job_graph.specs.Scatter.{at_tuple, index_for, item_at}
use Rattle.job_graph.specs.Words.{put_from}
use Rattle.job_graph.proofs.scatter.at_tuple.Given as goal

abbrev pub invariant-loop-field : goal.invariant-loop-field
invariant-loop-field l =
    put_from l.found (map (λ f. (f.0, item_at (index_for f.0 l.names l.tuple) f.1)) (drop l.field-index l.field-items)) ≡ at_tuple l.names l.tuple l.field-items
