use Rattle.std.proofs.Common.{◌≡◌, rules, subst}
use Rattle.document_links.specs.declared.process.Step.{out-Step}
use Rattle.scatter_shape.specs.Tuples.{tuples_of}
use Rattle.scatter_shape.specs.declared.shape.Method.{Method}
use Rattle.job_graph.specs.Scatter.{method_of}
use Rattle.job_graph.specs.inner.OneTuple.{HasTuple}
use Rattle.job_graph.proofs.handed.has_once.Goals as goal

pub returns : goal.returns
returns c = λ is.
    let method_is : c.unwrap_or.result ≡ method_of (out-Step c.args.step.now).method = first_of (cc, search rules) in
    let has : HasTuple (method_of (out-Step c.args.step.now).method) c.args.lengths.now c.args.tuple.now =
    subst (λ (m : Method). HasTuple m c.args.lengths.now c.args.tuple.now) method_is (c.has_tuple.ensures is) in
    record {
      tuples = tuples_of (method_of (out-Step c.args.step.now).method) c.args.lengths.now;
      made = has.made;
      once = has.once;
    }
