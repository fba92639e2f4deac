use Rattle.std.proofs.Common.{◌≡◌, take, map}
use Rattle.job_graph.specs.Equations.{out_gathered}
use Rattle.job_graph.specs.inner.Views.{walk_of}
use Rattle.job_graph.proofs.gather.outs_gathered.Given as goal

abbrev pub invariant-loop-name : goal.invariant-loop-name
invariant-loop-name l = l.outs ≡ map (λ name. (name, out_gathered l.shape.method l.shape.lengths (map walk_of l.walks) name)) (take l.name-index l.names)
