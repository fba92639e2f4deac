use Rattle.std.proofs.Common.{◌∙◌, ap}
use Rattle.job_graph.specs.UnfoldedSoFar.{UnfoldedSoFar}
use Rattle.job_graph.proofs.unfolding.Unfolding.result.Goals as goal

pub returns : goal.returns
returns c = c.outputs.ensures ∙ ap (λ (held : UnfoldedSoFar). held.result) c.self.view_is
