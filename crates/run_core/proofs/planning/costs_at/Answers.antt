use Rattle.std.specs.Prelude.{◌&&◌, not, option_copied}
use Rattle.std.proofs.Common.{◌≡◌, ◌∙◌, ℕ, Bool, Option, None, ap, sym}
use Rattle.job_rows.specs.declared.row.Row.{Row}
use Rattle.run_plan.specs.Costs.{costs_of}
use Rattle.run_core.specs.inner.Course.{Past, past_of}
use Rattle.run_core.specs.inner.Fetches.{archived_in}
use Rattle.run_core.specs.inner.FoundRows.{row_in}
use Rattle.run_core.specs.declared.state.Given.{Given}
use Rattle.run_core.proofs.planning.costs_at.Goals as goal

pub returns-in-None-clause-costs : goal.returns-in-None-clause-costs
returns-in-None-clause-costs c =
    let given : Given = c.args.given.now in
    let past : Past = past_of c.args.course.now in
    let number : ℕ = c.args.number in
    let none : row_in past.rows number ≡ None = sym c.get.ensures ∙ ap option_copied c.in-None.is in
    c.costs_without_row.ensures.costs given.rates (given.options.keep && archived_in past.lost None)
    ∙ ap (λ (row : Option Row). costs_of given.rates (not c.waits-held.result) (given.options.keep && archived_in past.lost row) row) (sym none)
    ∙ ap
    (λ (waits : Bool). costs_of given.rates (not waits) (given.options.keep && archived_in past.lost (row_in past.rows number)) (row_in past.rows number))
    c.waits-held.ensures
