use Rattle.std.proofs.Common.{◌∙◌, ap}
use Rattle.plan_checker.proofs.ParentLists.{parents_settled}
use Rattle.plan_checker.proofs.claim.Claim.pruned_parent.Goals as goal

pub returns : goal.returns
returns c = parents_settled c.args.self.now c.args.i c.as_slice.result.now c.first_pruned.result c.requires.there (c.as_slice.ensures ∙ ap (λ job. job.parents) c.vertex.ensures.value) c.vertex.ensures.fits (c.is_computed.ensures.0 c.if-not-is_computed.false) c.first_pruned.ensures
