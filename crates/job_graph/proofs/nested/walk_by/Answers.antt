use Rattle.std.proofs.Common.{subst, sym}
use Rattle.job_graph.specs.inner.Nested.{GoesDeeper}
use Rattle.job_graph.proofs.Inward.{none_along}
use Rattle.job_graph.proofs.nested.walk_by.Goals as goal

pub returns-in_ok-walked-in-None : goal.returns-in_ok-walked-in-None
returns-in_ok-walked-in-None c =
    subst (GoesDeeper c.args.facts.now c.args.place.now c.args.inputs.now c.args.outputs.now c.args.steps.now) (sym c.with_nested.ensures) (record {
      met = c.in_ok-walked-in-None.ensures.met;
      outs = c.in_ok-walked-in-None.ensures.outs;
      env = c.in_ok-walked-in-None.ensures.env;
      counted = c.in_ok-walked-in-None.ensures.counted;
      along = none_along c.args.facts.now c.args.place.now c.args.inputs.now c.args.steps.now c.in_ok-walked-in-None.walked.env c.new.result c.new.ensures;
    })
