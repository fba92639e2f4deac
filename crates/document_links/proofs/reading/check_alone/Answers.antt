use Rattle.std.proofs.Common.{◌≡◌, ℕ, IfOk, IfErr, Ok, ap, subst, ◌∙◌}
use Rattle.serde_json.specs.View.{view}
use Rattle.document_links.specs.Documents.{IsErrorOf, bounded_by}
use Rattle.document_links.specs.Targets.{Leads}
use Rattle.document_links.proofs.Named.{leads_alone, null_seen}
use Rattle.document_links.proofs.reading.check_alone.Goals as goal

pub returns-clause-ok : goal.returns-clause-ok
returns-clause-ok c =
    subst (λ (leads : Leads). IfOk c.check_bounds.result (λ _. (n : ℕ) × (bounded_by leads c.args.base.now (view c.args.document.now.json) ≡ Ok n)))
    (leads_alone _ (ap view c.in_ok-of.ensures ∙ null_seen)) c.check_bounds.ensures.ok

pub returns-clause-err : goal.returns-clause-err
returns-clause-err c =
    subst (λ (leads : Leads). IfErr c.check_bounds.result (IsErrorOf (bounded_by leads c.args.base.now (view c.args.document.now.json))))
    (leads_alone _ (ap view c.in_ok-of.ensures ∙ null_seen)) c.check_bounds.ensures.err
