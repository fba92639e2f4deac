use Rattle.std.proofs.Common.{subst, sym}
use Rattle.std.proofs.Common.{List}
use Rattle.run_facts.specs.NearestJob.{IsNear, inputs}
use Rattle.run_facts.specs.declared.nearest_job.Change.{Change}
use Rattle.run_facts.specs.declared.nearest_job.Near.TheVariants.{Inputs}
use Rattle.run_facts.proofs.nearest_job.nearest.Goals as goal

pub returns-in_ok-changes-in-Some : goal.returns-in_ok-changes-in-Some
returns-in_ok-changes-in-Some c =
    subst (λ (found : List Change). IsNear c.args.own.now c.args.rows.now (Inputs found)) (sym c.in_ok-changes-in-Some.ensures) (inputs c.in-Some.row.now c.in-Some.ensures.some)
