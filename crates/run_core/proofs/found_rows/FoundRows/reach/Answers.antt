use Rattle.std.proofs.Common.{◌∙◌, ◌≤◌, List, Option, length, ap, arith}
use Rattle.job_rows.specs.declared.row.Row.{Row}
use Rattle.run_core.specs.inner.FoundRows.{row_set}
use Rattle.run_core.proofs.FoundRows.{set_past}
use Rattle.run_core.proofs.found_rows.FoundRows.reach.Goals as goal

pub loop-self-preserved : goal.loop-self-preserved
loop-self-preserved c =
    let rows : List (Option Row) = c.loop-self.self-inside.rows.items in
    let past : length rows ≤ c.args.number = omega (arith, c.len.ensures, c.loop-self-test.true) in
    λ row. ap (row_set c.args.number row) c.in_ok-push.ensures.items ∙ set_past rows c.args.number row past ∙ c.loop-self.invariant row
