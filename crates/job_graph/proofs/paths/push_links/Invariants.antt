use Rattle.std.proofs.Common.{◌≡◌, ◌++◌, take}
use Rattle.std.specs.List.{flat_map}
use Rattle.job_graph.specs.Paths.{link_paths}
use Rattle.job_graph.proofs.paths.push_links.Given as goal

abbrev pub invariant-loop-input : goal.invariant-loop-input
invariant-loop-input l = l.paths ≡ l.initial.paths ++ flat_map link_paths (take l.input-index l.input-items)
