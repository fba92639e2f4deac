use Rattle.std.proofs.Common.{◌≡◌, ◌≢◌, ◌∙◌, [], List, Some, ap, inl, inr, sym, true, true≢false}
use Rattle.std.proofs.lemmas.Bool.{eqb-true}
use Rattle.std.specs.Option.{option_copied}
use Rattle.document_links.specs.declared.process.Step.{out-Step}
use Rattle.plain_data.specs.ByName.{value_at}
use Rattle.job_graph.specs.Words.{Name}
use Rattle.job_graph.specs.inner.Going.{facts_before}
use Rattle.job_graph.specs.inner.OneTuple.{OutsStay, count_known, lacks}
use Rattle.job_graph.specs.inner.Rounds.{walk_at}
use Rattle.job_graph.proofs.OneTuple.{stays_alone, stays_among, where_held}
use Rattle.job_graph.proofs.held.outs_stay.Goals as goal

pub returns-then-is_empty : goal.returns-then-is_empty
returns-then-is_empty c = λ is.
    let there : value_at c.args.step.now.0 c.args.env.now ≡ Some c.as_slice-outs.result.now =
    ap (λ (id : Name). value_at id c.args.env.now) (sym c.as_str.ensures.bytes) ∙ sym c.get.ensures ∙ ap option_copied c.in-Some.is ∙ ap Some (sym c.as_slice-outs.ensures) in
    let many : count_known c.as_slice-outs.result.now ≡ count_known c.args.others.now = sym c.known_count.ensures ∙ eqb-true c.known_count.result c.known_count-then-is_empty.result is ∙ c.known_count-then-is_empty.ensures in
    stays_alone c.args.facts.now c.args.place.now c.args.inputs.now c.args.env.now c.args.step.now c.as_slice-outs.result.now c.args.others.now (value_at c.args.step.now.0 c.args.env.now) there
    (c.is_empty.ensures.0 c.if-is_empty.true) many

pub returns-then-lacks : goal.returns-then-lacks
returns-then-lacks c = λ is.
    let there : value_at c.args.step.now.0 c.args.env.now ≡ Some c.as_slice-outs.result.now =
    ap (λ (id : Name). value_at id c.args.env.now) (sym c.as_str.ensures.bytes) ∙ sym c.get.ensures ∙ ap option_copied c.in-Some.is ∙ ap Some (sym c.as_slice-outs.ensures) in
    let lacking : lacks (out-Step c.args.step.now.1).outputs c.as_slice-outs.result.now c.args.others.now ≡ true =
    ap (λ (names : List Name). lacks names c.as_slice-outs.result.now c.args.others.now) (sym c.as_slice.ensures) ∙ sym c.lacks.ensures ∙ c.if-lacks.true in
    stays_among c.args.facts.now c.args.place.now c.args.inputs.now c.args.env.now c.args.step.now c.as_slice-outs.result.now c.args.others.now (value_at c.args.step.now.0 c.args.env.now) there
    (λ none. true≢false (sym (c.is_empty.ensures.1 none) ∙ c.if-is_empty.false)) (inl lacking)

pub returns : goal.returns
returns c =
    let there : value_at c.args.step.now.0 c.args.env.now ≡ Some c.as_slice-outs.result.now =
    ap (λ (id : Name). value_at id c.args.env.now) (sym c.as_str.ensures.bytes) ∙ sym c.get.ensures ∙ ap option_copied c.in-Some.is ∙ ap Some (sym c.as_slice-outs.ensures) in
    let some : (out-Step c.args.step.now.1).scatter ≢ [] = λ none. true≢false (sym (c.is_empty.ensures.1 none) ∙ c.if-is_empty.false) in
    where_held
    (λ (stay : OutsStay c.as_slice-outs.result.now (walk_at (facts_before c.args.facts.now) c.args.place.now c.args.inputs.now c.args.env.now c.args.step.now)
    (walk_at c.args.facts.now c.args.place.now c.args.inputs.now c.args.env.now c.args.step.now)).
    stays_among c.args.facts.now c.args.place.now c.args.inputs.now c.args.env.now c.args.step.now c.as_slice-outs.result.now c.args.others.now
    (value_at c.args.step.now.0 c.args.env.now) there some (inr stay))
    c.is_held.result c.is_held.ensures
