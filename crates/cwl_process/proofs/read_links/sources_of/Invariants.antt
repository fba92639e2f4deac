use Rattle.std.proofs.Common.{◌≡◌, ◌++◌, drop, map}
use Rattle.cwl_process.specs.Simple.{value_seen}
use Rattle.cwl_process.specs.Links.{source_in}
use Rattle.cwl_process.proofs.read_links.sources_of.Given as goal

abbrev pub invariant-loop-value : goal.invariant-loop-value
invariant-loop-value l = l.sources ++ map (source_in l.id) (map value_seen (drop l.value-index l.found)) ≡ map (source_in l.id) (map value_seen l.found)
