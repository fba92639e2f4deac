use Rattle.std.proofs.Common.{◌≡◌, ℕ, List, rules, subst, true}
use Rattle.document_links.specs.declared.process.Step.{out-Step}
use Rattle.scatter_shape.specs.Tuples.{tuples_of}
use Rattle.scatter_shape.specs.declared.shape.Method.{Method}
use Rattle.job_graph.specs.Scatter.{method_of}
use Rattle.job_graph.specs.inner.OneTuple.{HasTuple, lacks, times, walk_for}
use Rattle.job_graph.proofs.Nesting.{once_there}
use Rattle.job_graph.proofs.OneTuple.{where_held}
use Rattle.job_graph.proofs.held.is_held_by_last.Goals as goal

pub returns : goal.returns
returns c =
    let method = method_of (out-Step c.args.step.now).method in
    let method_is : c.unwrap_or-method.result ≡ method = first_of (cc, search rules) in
    let has : HasTuple method c.args.lengths.now c.as_slice.result.now =
    subst (λ (m : Method). HasTuple m c.args.lengths.now c.as_slice.result.now) method_is (c.has_tuple.ensures c.if-not-has_tuple.false) in
    let last = c.in_ok-last.last in
    where_held
    (λ (lack : lacks (out-Step c.args.step.now).outputs c.args.outs.now (walk_for c.args.facts.now c.args.step.now c.args.id.now c.args.place.now c.args.values.now last).outs ≡ true). record {
      made = has.made;
      holds = record {
        one = last;
        among = once_there last (tuples_of method c.args.lengths.now) (subst (λ (t : List ℕ). times t (tuples_of method c.args.lengths.now) ≡ 1) c.as_slice.ensures has.once);
        none = lack;
      };
    })
    c.holds_back-held.result c.holds_back-held.ensures
