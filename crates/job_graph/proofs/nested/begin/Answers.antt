use Rattle.std.proofs.Common.{◌≡◌, ◌∙◌, List, ℕ, Option, ap, subst, subst₂}
use Rattle.std.specs.Prelude.{IfOk, IfSome}
use Rattle.document_links.specs.declared.process.Process.{out-Process}
use Rattle.document_links.specs.declared.process.Step.{out-Step}
use Rattle.job_graph.specs.Equations.{step_place}
use Rattle.job_graph.specs.Words.{Fields, JobPlace}
use Rattle.job_graph.specs.inner.Nested.{Hands, HasBegun, HasInner}
use Rattle.job_graph.proofs.Loops.{if_found}
use Rattle.job_graph.proofs.Nesting.{begun_inner}
use Rattle.job_graph.proofs.nested.begin.Goals as goal

pub returns : goal.returns
returns c =
    let same : c.from_vec-tuple.result ≡ c.args.tuple.now = c.from_vec-tuple.ensures ∙ c.in_ok-from_slice.ensures.items in
    let hands : Hands c.args.facts.now c.args.inputs.now c.args.env.now c.args.step.now.1 c.args.tuple.now c.in-Some.given =
    subst (λ (found : Option Fields). IfSome found (Hands c.args.facts.now c.args.inputs.now c.args.env.now c.args.step.now.1 c.args.tuple.now)) c.in-Some.is c.in_ok-given.ensures in
    let own : c.in_ok-own.own ≡ step_place c.args.place.now c.args.step.now.0 c.args.tuple.now = c.in_ok-own.ensures ∙ ap (step_place c.args.place.now c.args.step.now.0) same in
    if_found
    (HasBegun c.args.facts.now (step_place c.args.place.now c.args.step.now.0 c.args.tuple.now) (out-Process (out-Step c.args.step.now.1).process) c.in-Some.given c.args.number c.args.tuple.now)
    (HasInner c.args.facts.now c.args.place.now c.args.inputs.now c.args.env.now c.args.step.now c.args.number c.args.tuple.now)
    (begun_inner c.args.facts.now c.args.place.now c.args.inputs.now c.args.env.now c.args.step.now c.args.tuple.now c.in-Some.given hands c.args.number)
    c.begin_process-inner.result
    (subst₂ (λ (place : JobPlace) (tuple : List ℕ). IfOk c.begin_process-inner.result (λ found. IfSome found
    (HasBegun c.args.facts.now place (out-Process (out-Step c.args.step.now.1).process) c.in-Some.given c.args.number tuple))) own same c.begin_process-inner.ensures)
