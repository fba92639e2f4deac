use Rattle.std.proofs.Common.{◌≡◌, drop}
use Rattle.job_graph.specs.inner.Rounds.{are_known}
use Rattle.job_graph.proofs.rounds.are_known.Given as goal

abbrev pub invariant-loop-source : goal.invariant-loop-source
invariant-loop-source l = are_known l.env (drop l.source-index l.sources) ≡ are_known l.env l.sources
