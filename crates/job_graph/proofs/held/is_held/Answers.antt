use Rattle.std.proofs.Common.{◌∙◌, sym}
use Rattle.job_graph.proofs.OneTuple.{step_stays, where_held}
use Rattle.job_graph.proofs.held.is_held.Goals as goal

pub returns-in-Some : goal.returns-in-Some
returns-in-Some c =
    where_held
    (step_stays c.args.facts.now c.args.place.now c.args.inputs.now c.args.env.now c.args.step.now c.in-Some.values (sym c.in-Some.is ∙ c.in_ok-entered.ensures.values) c.args.outs.now)
    c.is_held_by-held.result c.is_held_by-held.ensures
