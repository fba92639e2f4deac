use Rattle.std.proofs.Common.{◌∙◌, ap, subst, sym}
use Rattle.run_facts.specs.NearestJob.{IsNear, fields, near_tool, nothing}
use Rattle.run_facts.specs.declared.nearest_job.Near.{Near}
use Rattle.run_facts.proofs.nearest_job.nearest_with_inputs.Goals as goal

pub returns-in_ok-changes-in-Some : goal.returns-in_ok-changes-in-Some
returns-in_ok-changes-in-Some c =
    subst (λ (near : Near). IsNear c.args.own.now c.args.rows.now near) (sym (c.near_tool.ensures ∙ ap near_tool c.in_ok-changes-in-Some.ensures)) (fields c.in-Some.row.now c.requires c.in-Some.ensures.some)

pub returns-in-None : goal.returns-in-None
returns-in-None c = nothing c.requires c.in-None.ensures.none
