use Rattle.std.proofs.Common.{◌≡◌, ◌∙◌, Ok, Option, subst, sym, true}
use Rattle.std.specs.Prelude.{IfSome}
use Rattle.document_links.specs.declared.process.Step.{out-Step}
use Rattle.link_values.specs.StepInputs.{value_froms}
use Rattle.job_graph.specs.Equations.{goes_on}
use Rattle.job_graph.specs.Links.{by_link}
use Rattle.job_graph.specs.Words.{Fields}
use Rattle.job_graph.specs.inner.Nested.{Hands, HandsBy}
use Rattle.job_graph.proofs.Loops.{if_found}
use Rattle.job_graph.proofs.handed.handed.Goals as goal

pub returns : goal.returns
returns c =
    if_found
    (λ (given : Fields). (by_link (value_froms (out-Step c.args.step.now.1).inputs c.in-Some-2.fields) ≡ Ok given) × (goes_on (out-Step c.args.step.now.1).when given ≡ Ok true))
    (Hands c.args.facts.now c.args.inputs.now c.args.env.now c.args.step.now.1 c.args.tuple.now)
    (λ given both. record {
      values = c.in-Some.values;
      known = sym c.in_ok-entered.ensures.values ∙ c.in-Some.is;
      fields = c.in-Some-2.fields;
      by = subst (λ (found : Option Fields). IfSome found (λ fields. HandsBy c.args.step.now.1 c.in-Some.values c.args.tuple.now fields (out-Step c.args.step.now.1).scatter)) c.in-Some-2.is c.in_ok-fields.ensures;
      made = both.0;
      run = both.1;
    })
    c.handed_from-given.result c.handed_from-given.ensures
