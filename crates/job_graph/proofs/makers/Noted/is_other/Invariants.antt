use Rattle.std.proofs.Common.{◌≡◌, drop}
use Rattle.std.specs.List.{list_any}
use Rattle.job_graph.specs.inner.Makers.{is_this}
use Rattle.job_graph.proofs.makers.Noted.is_other.Given as goal

abbrev pub invariant-loop-place : goal.invariant-loop-place
invariant-loop-place l = list_any (is_this l.job) l.self.others.items ≡ list_any (is_this l.job) (drop l.place-index l.place-items)
