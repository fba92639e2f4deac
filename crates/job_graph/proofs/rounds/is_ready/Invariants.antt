use Rattle.std.proofs.Common.{◌≡◌, [], drop, unwrap_or}
use Rattle.std.specs.List.{list_all}
use Rattle.document_links.specs.declared.process.Step.{out-Step}
use Rattle.job_graph.specs.inner.Rounds.{are_known, is_ready}
use Rattle.job_graph.proofs.rounds.is_ready.Given as goal

abbrev pub invariant-loop-input : goal.invariant-loop-input
invariant-loop-input l =
    list_all (λ i. are_known l.env (unwrap_or i.1.links.sources [])) (drop l.input-index (out-Step l.step).inputs) ≡ is_ready l.env l.step
