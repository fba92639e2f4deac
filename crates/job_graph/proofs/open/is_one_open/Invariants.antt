use Rattle.std.proofs.Common.{◌≡◌, false, drop, length}
use Rattle.std.specs.Prelude.{◌-◌}
use Rattle.std.specs.List.{list_any, zip}
use Rattle.job_graph.specs.inner.Ended.{open_by}
use Rattle.job_graph.proofs.open.is_one_open.Given as goal

abbrev pub invariant-loop-back : goal.invariant-loop-back
invariant-loop-back l = list_any (open_by l.place) (zip (drop (length l.known - l.back) l.ended) (drop (length l.known - l.back) l.known)) ≡ false
