-- Known jobs with costs within the limits make a graph, where no equation fails and they are not too many.
use Rattle.std.proofs.Common.{◌≡◌, true}
use Rattle.job_graph.specs.Unfold.{is_within_limits, unfolded}
use Rattle.job_graph.proofs.Graphs.{known_make_graph}
use Rattle.job_graph.proofs.Limits.{few_jobs, few_parents, within_limits}
use Rattle.run_rules.proofs.events.Graphs.{MakeGraphs}

pub known_make_graphs : MakeGraphs
known_make_graphs walks learned outs costs none each cheap =
    let within : is_within_limits (unfolded walks learned).jobs ≡ true = within_limits walks learned none in
    known_make_graph learned outs (unfolded walks learned).jobs costs each cheap
    (few_jobs (unfolded walks learned).jobs within) (few_parents (unfolded walks learned).jobs within)
