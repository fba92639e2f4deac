use Rattle.std.proofs.Common.{◌≡◌, ◌∙◌, ◌∷◌, ◌++◌, ◌<◌, List, [], ap, ap₂, get_or, length, subst, sym, ℕ}
use Rattle.document_links.specs.declared.process.Step.{Step}
use Rattle.job_graph.specs.Words.{Name}
use Rattle.job_graph.specs.inner.Counts.{is_unknown}
use Rattle.job_graph.proofs.Counting.{each_more}
use Rattle.job_graph.proofs.counts.count_unknown.Goals as goal

pub loop-step-preserved : goal.loop-step-preserved
loop-step-preserved c =
    let same : c.as_slice-step-items.result.now ≡ c.args.steps.now = c.as_slice-step-items.ensures.entries in
    let below : c.loop-step.step-index < length c.args.steps.now = subst (λ (some : List (Name × Step)). c.loop-step.step-index < length some) same c.loop-step-test.true in
    c.in_ok-push.ensures.items
    ∙ ap₂ (λ (xs : List ℕ) (x : ℕ). xs ++ x ∷ []) c.loop-step.invariant c.in_ok-unknown_in.ensures
    ∙ sym (each_more (is_unknown c.args.env.now) c.args.steps.now c.loop-step.step-index c.step-item.result below
    (c.step-item.is ∙ ap (λ (some : List (Name × Step)). get_or some c.loop-step.step-index c.step-item.result) same))
