use Rattle.std.proofs.Common.{◌≡◌, ◌≢◌, ◌∙◌, [], List, Ok, ap, subst₂, sym, true≢false}
use Rattle.document_links.specs.declared.process.Step.{out-Step}
use Rattle.job_graph.specs.Jobs.{Walk}
use Rattle.job_graph.specs.Scatter.{lengths_under}
use Rattle.job_graph.specs.Words.{Name}
use Rattle.job_graph.specs.inner.Going.{facts_before}
use Rattle.job_graph.specs.inner.Levels.{step_of}
use Rattle.job_graph.specs.inner.OneTuple.{OutsStay}
use Rattle.job_graph.proofs.Handing.{scattered_by}
use Rattle.job_graph.proofs.OneTuple.{where_held}
use Rattle.job_graph.proofs.held.is_held_by.Goals as goal

pub returns-in-Ok : goal.returns-in-Ok
returns-in-Ok c =
    let some : (out-Step c.args.step.now).scatter ≢ [] = λ none. true≢false (sym (c.is_empty.ensures.1 none) ∙ c.if-is_empty.false) in
    let long : lengths_under (out-Step c.args.step.now).scatter c.args.values.now ≡ Ok c.in-Ok.lengths =
    ap (λ (names : List Name). lengths_under names c.args.values.now) (sym c.as_slice.ensures) ∙ sym c.in_ok-lengths.ensures.value ∙ c.in-Ok.is in
    where_held
    (subst₂ (λ (was now : Walk). OutsStay c.args.outs.now was now)
    (scattered_by (step_of (facts_before c.args.facts.now) c.args.step.now) c.args.id.now c.args.place.now c.args.values.now (out-Step c.args.step.now).scatter some c.in-Ok.lengths long)
    (scattered_by (step_of c.args.facts.now c.args.step.now) c.args.id.now c.args.place.now c.args.values.now (out-Step c.args.step.now).scatter some c.in-Ok.lengths long))
    c.is_held_over.result c.is_held_over.ensures
