use Rattle.std.proofs.Common.{◌≡◌, fold, take}
use Rattle.job_graph.specs.inner.Marks.{mark_after}
use Rattle.job_graph.proofs.mark.mark_of.Given as goal

abbrev pub invariant-loop-segment : goal.invariant-loop-segment
invariant-loop-segment l = l.mark ≡ fold mark_after 0 (take l.segment-index l.place)
