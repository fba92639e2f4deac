use Rattle.std.proofs.Common.{◌∙◌, map, sym, arith}
use Rattle.job_graph.specs.inner.Views.{resolved_of}
use Rattle.job_graph.proofs.OneOpen.{found_unlearned}
use Rattle.job_graph.proofs.outcome.are_learned.Goals as goal

pub returns-then-not-is_learned : goal.returns-then-not-is_learned
returns-then-not-is_learned c =
    sym (found_unlearned (map resolved_of c.args.learned.now) c.args.known.now _ c.index-known-number.result (omega arith)
    (sym c.is_learned.ensures ∙ c.if-not-is_learned.true))
