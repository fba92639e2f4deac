use Rattle.std.proofs.Common.{List, map, subst, sym}
use Rattle.job_graph.specs.Jobs.{Met}
use Rattle.job_graph.specs.Words.{Name}
use Rattle.job_graph.specs.inner.Going.{Hears, LeavesOut, facts_before, reads_one}
use Rattle.job_graph.specs.inner.Levels.{steps_of, steps_walk}
use Rattle.job_graph.specs.inner.Views.{met_of}
use Rattle.job_graph.proofs.Gone.{leaves_whole, was_met, whole_outs}
use Rattle.job_graph.proofs.Hearing.{all_met, heard_all}
use Rattle.job_graph.proofs.waiting.walk_on.Goals as goal

pub returns-clause-met : goal.returns-clause-met
returns-clause-met c =
    let old : List Met = (steps_walk c.args.outputs.now (steps_of (facts_before c.args.facts.now) c.args.steps.now) c.args.place.now c.args.inputs.now).met in
    leaves_whole c.args.facts.now c.args.place.now c.args.ended.now c.requires.ended c.args.inputs.now c.args.steps.now c.requires.apart c.args.env c.requires.before c.in_ok-going.going c.in_ok-going.ensures c.args.outputs.now
    (map met_of c.in_ok-met.met) (map met_of c.in_ok-walk.walk.met)
    (subst (λ (all : List Met). LeavesOut old all (all_met c.args.facts.now c.args.place.now c.args.inputs.now c.args.steps.now c.in_ok-going.going.env c.args.steps.now)) (sym c.in_ok-met.ensures.met)
    (heard_all c.args.facts.now c.args.place.now c.args.inputs.now c.args.steps.now c.in_ok-going.going.env c.in_ok-going.going.changed old c.in_ok-going.going.met c.hear_waiting.new.met
    c.in_ok-going.ensures.goes.slots
    (subst (λ (ids : List Name). Hears c.args.facts.now c.args.place.now c.args.inputs.now c.args.steps.now c.in_ok-going.going.env (λ n s. reads_one ids s.1) c.in_ok-going.going.met c.hear_waiting.new.met) c.as_slice-ids.ensures c.in_ok-hear_waiting.ensures)
    (was_met c.args.facts.now c.args.place.now c.args.ended.now c.requires.ended c.args.inputs.now c.args.steps.now c.requires.apart c.args.env c.requires.before c.in_ok-going.going c.in_ok-going.ensures c.args.outputs.now)
    c.in_order.ensures.order))
    c.in_ok-walk.ensures.met

pub returns-clause-outs : goal.returns-clause-outs
returns-clause-outs c =
    whole_outs c.args.facts.now c.args.place.now c.args.ended.now c.requires.ended c.args.inputs.now c.args.steps.now c.requires.apart c.args.env c.requires.before c.in_ok-going.going c.in_ok-going.ensures c.args.outputs.now
    c.in_ok-walk.walk.outs c.in_ok-walk.ensures.outs
