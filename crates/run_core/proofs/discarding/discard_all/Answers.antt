use Rattle.std.proofs.Common.{◌≡◌, ◌∙◌, ◌<◌, ◌^◌, ℕ, List, length, reverse, ap, subst}
use Rattle.std.proofs.lemmas.List.{length-reverse}
use Rattle.job_graph.specs.Words.{Name}
use Rattle.run_core.specs.inner.Discards.{DiscardsOn}
use Rattle.run_core.proofs.Lists.{if_ok}
use Rattle.run_core.proofs.discarding.discard_all.Goals as goal

pub returns-clause-is : goal.returns-clause-is
returns-clause-is c =
    let turned : c.last_first-left.result ≡ reverse c.args.gone.now = c.last_first-left.ensures.left ∙ ap reverse c.in_ok-copied.ensures in
    if_ok c.discard_next.result
    (λ turn on. record {
      few = subst (λ (n : ℕ). n < 2 ^ 64) (ap length turned ∙ length-reverse c.args.gone.now) c.last_first-left.ensures.few;
      on = subst (λ (left : List Name). DiscardsOn c.args.given.now c.args.course.now c.args.number left turn c.discard_next.new.course) turned on;
    })
    c.discard_next.ensures.is
