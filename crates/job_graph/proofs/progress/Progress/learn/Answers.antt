use Rattle.std.proofs.Common.{◌≡◌, Option, Some, None, refl}
use Rattle.job_graph.specs.declared.fault.UnfoldFault.{UnfoldFault}
use Rattle.job_graph.specs.inner.Views.{resolved_of}
use Rattle.job_graph.proofs.KeptFault.{learns_kept, learns_more, same_kept}
use Rattle.job_graph.proofs.progress.Progress.learn.Goals as goal

none_kept : (kept : Option UnfoldFault) → ((fault : UnfoldFault) → kept ≡ Some fault → ⊥) → kept ≡ None
none_kept None other = refl
none_kept (Some fault) other = absurd (other fault refl)

pub returns-in-Ok-clause-learns : goal.returns-in-Ok-clause-learns
returns-in-Ok-clause-learns c =
    λ walks learned follows. learns_more walks learned (resolved_of c.args.resolved) c.args.self.now c.resolve.new.self
    (none_kept c.args.self.now.fault c.in_default.not-Some) c.in-Ok.ensures.kept (c.in-Ok.ensures.resolves walks learned follows)

pub returns-in-Err-clause-learns : goal.returns-in-Err-clause-learns
returns-in-Err-clause-learns c =
    λ walks learned follows. learns_kept walks learned (resolved_of c.args.resolved) c.args.self.now c.resolve.new.self c.keep.new.self c.in-Err.error c.keep.result
    (none_kept c.args.self.now.fault c.in_default.not-Some) c.in-Err.ensures.kept (c.in-Err.ensures.resolves walks learned follows) c.keep.ensures

pub returns-in-Err-clause-same : goal.returns-in-Err-clause-same
returns-in-Err-clause-same c = same_kept c.args.self.now c.resolve.new.self c.keep.new.self c.in-Err.error c.keep.result c.in-Err.ensures.same c.keep.ensures
