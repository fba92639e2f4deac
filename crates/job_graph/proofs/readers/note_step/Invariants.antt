use Rattle.std.proofs.Common.{◌≡◌, ℕ, [], drop, unwrap_or}
use Rattle.std.specs.Prelude.{◌||◌, ◌&&◌, ◌==◌}
use Rattle.std.specs.List.{list_any}
use Rattle.document_links.specs.declared.process.Step.{out-Step}
use Rattle.job_graph.specs.Words.{Name}
use Rattle.job_graph.specs.inner.Going.{is_from, reads}
use Rattle.job_graph.specs.inner.Readers.{stands}
use Rattle.job_graph.proofs.readers.note_step.Given as goal

abbrev pub invariant-loop-input : goal.invariant-loop-input
invariant-loop-input l =
    (m : ℕ) (id : Name) → (stands m id l.rows || (l.number == m && list_any (λ i. list_any (is_from id) (unwrap_or i.1.links.sources [])) (drop l.input-index (out-Step l.step).inputs)))
    ≡ (stands m id l.fn.rows || (l.number == m && reads id l.step))
