use Rattle.std.proofs.Common.{◌∙◌, [], map, ap}
use Rattle.job_graph.specs.KnownJobs.{jobs_in, known_of}
use Rattle.job_graph.specs.Unfold.{known_from}
use Rattle.job_graph.specs.UnfoldedSoFar.{UnfoldedSoFar}
use Rattle.job_graph.proofs.Knowing.{parents_seen}
use Rattle.job_graph.proofs.unfolding.Unfolding.known.Goals as goal

pub returns-clause-jobs : goal.returns-clause-jobs
returns-clause-jobs c = ap jobs_in c.as_slice.ensures ∙ ap (λ (held : UnfoldedSoFar). held.known) c.self.view_is

pub returns-clause-parents : goal.returns-clause-parents
returns-clause-parents c =
    ap (map known_of) c.as_slice.ensures ∙ parents_seen c.self.inside.progress c.self.invariant.stands ∙ ap (λ (held : UnfoldedSoFar). known_from [] held.known) c.self.view_is
