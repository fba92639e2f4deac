use Rattle.std.proofs.Common.{List, map, subst, sym}
use Rattle.job_graph.specs.Jobs.{Met}
use Rattle.job_graph.specs.inner.Nested.{GoesDeeper}
use Rattle.job_graph.specs.inner.OneTuple.{StepsMeet}
use Rattle.job_graph.specs.inner.Views.{met_of}
use Rattle.job_graph.proofs.OneTuple.{leaves_further, outs_further, settled_still}
use Rattle.job_graph.proofs.laws_of_walks.Part.{stays_itself}
use Rattle.job_graph.proofs.nested.walk_found.Goals as goal

pub returns-then-stays : goal.returns-then-stays
returns-then-stays c =
    let met : List Met = map met_of c.args.found.inner.walk.met in
    let meets : StepsMeet c.args.facts.now c.args.place.now c.args.inputs.now c.args.env c.args.steps.now met = c.requires.found.meets c.if-stays.true in
    subst (GoesDeeper c.args.facts.now c.args.place.now c.args.inputs.now c.args.outputs.now c.args.steps.now) (sym c.with_nested.ensures) (record {
      met = leaves_further c.args.facts.now c.args.place.now c.args.ended.now c.requires.ended c.args.inputs.now c.args.steps.now c.requires.apart c.args.env c.requires.before
          met meets c.args.outputs.now (map met_of c.in_ok-walk.walk.met) c.in_ok-walk.ensures.met;
      outs = outs_further c.args.facts.now c.args.place.now c.args.ended.now c.requires.ended c.args.inputs.now c.args.steps.now c.requires.apart c.args.env c.requires.before
          met meets c.args.outputs.now c.in_ok-walk.walk.outs c.in_ok-walk.ensures.outs;
      env = settled_still c.args.facts.now c.args.place.now c.args.ended.now c.requires.ended c.args.inputs.now c.args.steps.now c.requires.apart c.args.env c.requires.before met meets;
      counted = c.requires.counted;
      along = c.requires.found.along c.args.env (λ step name. stays_itself _);
    })

pub returns : goal.returns
returns c =
    subst (GoesDeeper c.args.facts.now c.args.place.now c.args.inputs.now c.args.outputs.now c.args.steps.now) (sym c.with_nested-2.ensures) (record {
      met = c.in_ok-walked.ensures.met;
      outs = c.in_ok-walked.ensures.outs;
      env = c.in_ok-walked.ensures.env;
      counted = c.in_ok-walked.ensures.counted;
      along = c.requires.found.along c.in_ok-walked.walked.env c.in_ok-walked.ensures.grown;
    })
