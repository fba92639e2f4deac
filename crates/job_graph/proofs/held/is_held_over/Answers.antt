use Rattle.std.proofs.Common.{◌≡◌, ◌∙◌, ℕ, List, Ok, ap, ap₂, rules, subst, subst₂, sym}
use Rattle.document_links.specs.declared.process.Step.{out-Step}
use Rattle.scatter_shape.specs.Tuples.{tuples_of}
use Rattle.job_graph.specs.Jobs.{Walk}
use Rattle.job_graph.specs.Scatter.{method_of, tuples_for}
use Rattle.job_graph.specs.inner.Going.{facts_before}
use Rattle.job_graph.specs.inner.Levels.{step_of}
use Rattle.job_graph.specs.inner.OneTuple.{HoldsBack, HoldsByOne, OutsStay}
use Rattle.job_graph.proofs.OneTuple.{outs_stay, over_these, where_held}
use Rattle.job_graph.proofs.held.is_held_over.Goals as goal

pub returns-then-branch : goal.returns-then-branch
returns-then-branch c = λ is.
    let by : HoldsByOne c.args.facts.now c.args.step.now c.args.id.now c.args.place.now c.args.values.now c.args.outs.now c.args.lengths =
    subst (λ (lengths : List ℕ). HoldsByOne c.args.facts.now c.args.step.now c.args.id.now c.args.place.now c.args.values.now c.args.outs.now lengths) c.as_slice.ensures
    (c.in_ok-is_held_by_last.ensures c.if-branch.true) in
    let tuples = tuples_of (method_of (out-Step c.args.step.now).method) c.args.lengths in
    subst₂ (λ (was now : Walk). OutsStay c.args.outs.now was now)
    (over_these (step_of (facts_before c.args.facts.now) c.args.step.now) c.args.id.now c.args.place.now c.args.values.now c.args.lengths tuples (sym by.made))
    (over_these (step_of c.args.facts.now c.args.step.now) c.args.id.now c.args.place.now c.args.values.now c.args.lengths tuples (sym by.made))
    (outs_stay c.args.facts.now c.args.step.now c.args.id.now c.args.place.now c.args.values.now c.args.outs.now tuples by.holds c.args.lengths)

pub returns-in-Ok : goal.returns-in-Ok
returns-in-Ok c =
    let method_is : c.unwrap_or-method.result ≡ method_of (out-Step c.args.step.now).method = first_of (cc, search rules) in
    let made : Ok c.as_slice-these.result.now ≡ tuples_for (method_of (out-Step c.args.step.now).method) c.args.lengths =
    ap Ok c.as_slice-these.ensures ∙ sym c.in-Ok.is ∙ c.in_ok-tuples.ensures.value ∙ ap₂ tuples_for method_is c.as_slice-2.ensures in
    where_held
    (λ (held : HoldsBack c.args.facts.now c.args.step.now c.args.id.now c.args.place.now c.args.values.now c.args.outs.now c.as_slice-these.result.now). subst₂ (λ (was now : Walk). OutsStay c.args.outs.now was now)
    (over_these (step_of (facts_before c.args.facts.now) c.args.step.now) c.args.id.now c.args.place.now c.args.values.now c.args.lengths c.as_slice-these.result.now made)
    (over_these (step_of c.args.facts.now c.args.step.now) c.args.id.now c.args.place.now c.args.values.now c.args.lengths c.as_slice-these.result.now made)
    (outs_stay c.args.facts.now c.args.step.now c.args.id.now c.args.place.now c.args.values.now c.args.outs.now c.as_slice-these.result.now held c.args.lengths))
    c.is_held_back-held.result c.is_held_back-held.ensures
