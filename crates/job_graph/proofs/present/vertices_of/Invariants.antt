use Rattle.std.proofs.Common.{◌≡◌, ◌++◌, drop, map}
use Rattle.std.specs.List.{zip}
use Rattle.job_graph.specs.inner.Ended.{vertex_by}
use Rattle.job_graph.proofs.present.vertices_of.Given as goal

abbrev pub invariant-loop-number : goal.invariant-loop-number
invariant-loop-number l =
    l.vertices.items ++ map vertex_by (zip (drop l.number l.needed) (zip (drop l.number l.known) (drop l.number l.costs)))
    ≡ map vertex_by (zip l.needed (zip l.known l.costs))
