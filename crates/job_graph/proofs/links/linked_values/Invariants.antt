use Rattle.std.proofs.Common.{◌≡◌, drop, map}
use Rattle.job_graph.specs.Jobs.{all_there}
use Rattle.job_graph.specs.Links.{linked_values, source_value}
use Rattle.job_graph.proofs.Loops.{put_before}
use Rattle.job_graph.proofs.links.linked_values.Given as goal

abbrev pub invariant-loop-source : goal.invariant-loop-source
invariant-loop-source l =
    put_before l.values.items (all_there (map (source_value l.inputs l.env) (drop l.source-index l.sources))) ≡ linked_values l.inputs l.env l.sources
