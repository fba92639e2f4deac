use Rattle.std.proofs.Common.{◌∙◌, length, sym, true≢false}
use Rattle.std.proofs.lemmas.Bool.{eqb-true}
use Rattle.document_links.specs.declared.process.Step.{out-Step}
use Rattle.job_graph.specs.Words.{Fields}
use Rattle.job_graph.specs.inner.Nested.{HandsBy, HasAtOne}
use Rattle.job_graph.proofs.Handing.{hands_alone, hands_among, no_elements}
use Rattle.job_graph.proofs.Loops.{if_found}
use Rattle.job_graph.proofs.handed.fields_at.Goals as goal

pub returns-then-is_empty-2 : goal.returns-then-is_empty-2
returns-then-is_empty-2 c =
    hands_alone c.args.step.now c.args.values c.args.tuple.now (c.is_empty.ensures.0 c.if-is_empty.true)
    (no_elements c.args.tuple.now (eqb-true (length c.args.tuple.now) 0 (sym c.is_empty-then-is_empty.ensures ∙ c.if-is_empty-2.true)))

pub returns : goal.returns
returns c =
    if_found (HasAtOne c.args.step.now c.args.values c.args.tuple.now)
    (λ (fields : Fields). HandsBy c.args.step.now c.args.values c.args.tuple.now fields (out-Step c.args.step.now).scatter)
    (hands_among c.args.step.now c.args.values c.args.tuple.now (λ none. true≢false (sym (c.is_empty.ensures.1 none) ∙ c.if-is_empty.false)))
    c.fields_at_one-fields.result c.fields_at_one-fields.ensures
