use Rattle.std.proofs.Common.{◌∙◌, false, true, sym, subst}
use Rattle.workflow_check.specs.Faults.{IsErrorOf}
use Rattle.workflow_check.specs.inner.Seen.{around}
use Rattle.workflow_check.proofs.Carried.{compared}
use Rattle.workflow_check.proofs.linking.check_overlap.Goals as goal

pub returns-then-overlap-clause-ok : goal.returns-then-overlap-clause-ok
returns-then-overlap-clause-ok c =
    compared (around c.args.scope) c.args.links.now c.args.sources.now c.args.scattered c.args.kind.now true (sym c.is_empty.ensures ∙ c.if-is_empty.false) (sym c.in_ok-overlap.ensures ∙ c.if-overlap.true)

pub returns-clause-err : goal.returns-clause-err
returns-clause-err c =
    subst (λ found. IsErrorOf found c.refused.result)
    (sym (compared (around c.args.scope) c.args.links.now c.args.sources.now c.args.scattered c.args.kind.now false (sym c.is_empty.ensures ∙ c.if-is_empty.false) (sym c.in_ok-overlap.ensures ∙ c.if-overlap.false)))
    c.refused.ensures
