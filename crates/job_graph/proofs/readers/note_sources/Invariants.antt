use Rattle.std.proofs.Common.{◌≡◌, ℕ, drop}
use Rattle.std.specs.Prelude.{◌||◌, ◌&&◌, ◌==◌}
use Rattle.std.specs.List.{list_any}
use Rattle.job_graph.specs.Words.{Name}
use Rattle.job_graph.specs.inner.Going.{is_from}
use Rattle.job_graph.specs.inner.Readers.{stands}
use Rattle.job_graph.proofs.readers.note_sources.Given as goal

abbrev pub invariant-loop-source : goal.invariant-loop-source
invariant-loop-source l =
    (m : ℕ) (id : Name) → (stands m id l.rows || (l.number == m && list_any (is_from id) (drop l.source-index l.sources)))
    ≡ (stands m id l.fn.rows || (l.number == m && list_any (is_from id) l.sources))
