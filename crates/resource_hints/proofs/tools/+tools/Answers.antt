use Rattle.std.proofs.Common.{OnOk, ◌≡◌, ◌-◌, sym, ap, subst, ◌∙◌}
use Rattle.serde_json.specs.View.{view}
use Rattle.document_links.specs.Homes.{home_seen}
use Rattle.document_links.specs.Library.{finds_in}
use Rattle.resource_hints.specs.Hints.{asked_below, step_asked, steps_asked, tool_asked, with_each}
use Rattle.resource_hints.proofs.Walked.{below_tool, below_workflow, one_more, too_deep}
use Rattle.resource_hints.proofs.tools.+tools.Goals as goal

pub add_process-returns-then-not-is_workflow : goal.add_process-returns-then-not-is_workflow
add_process-returns-then-not-is_workflow t c =
    subst (λ more. OnOk c.add_tool.result (c.add_tool.new.asked ≡ with_each more c.args.asked.now))
    (ap (tool_asked c.args.place.now) c.in_ok-within.ensures
    ∙ sym (below_tool (finds_in c.args.library.now) c.args.levels (home_seen c.args.home) c.args.around c.args.place.now (view c.args.value.now) (sym c.is_workflow.ensures ∙ c.if-not-is_workflow.true)))
    c.add_tool.ensures

pub add_process-returns-then-levels-eq0 : goal.add_process-returns-then-levels-eq0
add_process-returns-then-levels-eq0 t c =
    ap (λ more. with_each more c.args.asked.now)
    (sym (too_deep (finds_in c.args.library.now) c.args.levels (home_seen c.args.home) c.args.around c.args.place.now (view c.args.value.now) c.if-levels-eq0.true (sym c.is_workflow.ensures ∙ c.if-not-is_workflow.false)))

pub add_process-returns : goal.add_process-returns
add_process-returns t c =
    let find = finds_in c.args.library.now in
    let h = home_seen c.args.home in
    subst (λ more. OnOk c.add_steps.result (c.add_steps.new.asked ≡ with_each more c.args.asked.now))
    (ap (λ around. steps_asked (asked_below find (c.args.levels - 1)) find h around c.args.place.now (view c.args.value.now)) c.in_ok-within.ensures
    ∙ sym (below_workflow find c.args.levels h c.args.around c.args.place.now (view c.args.value.now) c.if-levels-eq0.false (sym c.is_workflow.ensures ∙ c.if-not-is_workflow.false)))
    c.add_steps.ensures

pub add_steps-loop-entry-preserved : goal.add_steps-loop-entry-preserved
add_steps-loop-entry-preserved t c =
    let find = finds_in c.args.library.now in
    one_more (step_asked (asked_below find c.args.levels) find (home_seen c.args.home) c.args.around c.args.place.now) c.as_slice-entry-items.result.now c.loop-entry.entry-index c.entry-item.result
    c.loop-entry.asked c.add_step.new.asked _ c.loop-entry-test.true c.entry-item.is c.in_ok-add_step.ensures c.loop-entry.invariant
