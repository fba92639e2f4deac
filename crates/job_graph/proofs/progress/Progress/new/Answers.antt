use Rattle.std.proofs.Common.{[], ap, refl}
use Rattle.job_graph.specs.Equations.{meaning_of, walker}
use Rattle.job_graph.specs.Jobs.{Made}
use Rattle.job_graph.specs.Words.{Fields}
use Rattle.job_graph.proofs.Unfolds.{knows_first}
use Rattle.job_graph.proofs.progress.Progress.new.Goals as goal

pub returns-in-Ok-clause-ok : goal.returns-in-Ok-clause-ok
returns-in-Ok-clause-ok c =
    knows_first (walker c.args.process.now c.args.inputs.now c.args.measures) _ c.unfold.new.self
    (ap (λ (fields : Fields). λ (made : Made). meaning_of c.args.measures made c.args.process.now [] fields) c.in_ok-fields.ensures)
    c.new.ensures c.new-2.ensures refl c.new-3.ensures.items refl c.see_ids.ensures c.in-Ok.ensures
