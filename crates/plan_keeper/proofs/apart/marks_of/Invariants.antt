use Rattle.plan_keeper.proofs.Marked.{IsLoadedBelow}
use Rattle.plan_keeper.proofs.apart.marks_of.Given as goal

abbrev pub invariant-loop-vertex : goal.invariant-loop-vertex
invariant-loop-vertex l = IsLoadedBelow l.vertices l.marks.items l.vertex-index
