use Rattle.std.proofs.Common.{◌≡◌, ◌-◌, ◌+◌, length}
use Rattle.job_rows.specs.declared.row.Row.{Row}
use Rattle.run_core.specs.inner.FoundRows.{row_set}
use Rattle.run_core.proofs.found_rows.FoundRows.reach.Given as goal

abbrev pub invariant-loop-self : goal.invariant-loop-self
invariant-loop-self l = (row : Row) → row_set l.number row l.self-inside.rows.items ≡ row_set l.number row l.initial.self-inside.rows.items

abbrev pub decreases-loop-self : goal.decreases-loop-self
decreases-loop-self l = l.number + 1 - length l.self-inside.rows.items
