use Rattle.std.proofs.Common.{OnOk, sym, subst, ◌≡◌, ◌++◌, ◌∙◌}
use Rattle.serde_json.specs.View.{view}
use Rattle.document_links.specs.Homes.{home_seen}
use Rattle.document_links.proofs.Named.{no_more, none_of_tool, none_so_deep, of_workflow}
use Rattle.document_links.proofs.names.+names.Goals as goal

pub push_urls-returns-then-levels-eq0 : goal.push_urls-returns-then-levels-eq0
push_urls-returns-then-levels-eq0 t c = no_more _ _ (none_so_deep c.args.levels (home_seen c.args.home) (view c.args.value.now) c.if-levels-eq0.true)

pub push_urls-returns-then-not-is_workflow : goal.push_urls-returns-then-not-is_workflow
push_urls-returns-then-not-is_workflow t c = no_more _ _ (none_of_tool c.args.levels (home_seen c.args.home) (view c.args.value.now) (sym c.is_workflow.ensures ∙ c.if-not-is_workflow.true))

pub push_urls-returns : goal.push_urls-returns
push_urls-returns t c =
    subst (λ more. OnOk c.push_workflow_urls.result (c.push_workflow_urls.new.urls.items ≡ c.args.urls.now.items ++ more))
    (sym (of_workflow c.args.levels (home_seen c.args.home) (view c.args.value.now) c.if-levels-eq0.false (sym c.is_workflow.ensures ∙ c.if-not-is_workflow.false)))
    c.push_workflow_urls.ensures
