use Rattle.std.proofs.Common.{◌∙◌, ap}
use Rattle.job_graph.specs.KnownJobs.{number_at}
use Rattle.job_graph.specs.UnfoldedSoFar.{UnfoldedSoFar}
use Rattle.job_graph.proofs.Index.{number_is}
use Rattle.job_graph.proofs.unfolding.Unfolding.number_of.Goals as goal

pub returns : goal.returns
returns c =
    number_is c.self.inside.progress.known c.args.place.now c.number_of.result c.number_of.ensures.known c.number_of.ensures.one
    ∙ ap (λ (so_far : UnfoldedSoFar). number_at c.args.place.now so_far.known) c.self.view_is
