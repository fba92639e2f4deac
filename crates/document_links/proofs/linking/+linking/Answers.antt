use Rattle.std.proofs.Common.{sym, ap, subst, ◌∙◌, arith, []}
use Rattle.std.specs.Option.{option_map_or}
use Rattle.serde_json.specs.View.{view}
use Rattle.document_table.specs.Entries.{MayHaveForm, entries}
use Rattle.document_table.specs.declared.form.Form.TheVariants as form
use Rattle.document_table.specs.declared.form.Kind.TheVariants as kind
use Rattle.cwl_process.specs.Acting.{asked_in}
use Rattle.cwl_process.specs.Workflows.{own_id}
use Rattle.cwl_process.proofs.Forms.{entry_is_of, made_differ, none_differ, seen_differ, step_run, workflow_steps}
use Rattle.cwl_process.proofs.Levels.{ok_same}
use Rattle.document_links.specs.Homes.{home_seen}
use Rattle.document_links.specs.Library.{finds_in}
use Rattle.document_links.specs.Linked.{linked, step_in}
use Rattle.document_links.specs.declared.process.Process as process
use Rattle.document_links.proofs.Placed.{linked_deep, linked_tool, linked_workflow, stepped}
use Rattle.document_links.proofs.linking.+linking.Goals as goal

pub linked-returns-then-levels-eq0 : goal.linked-returns-then-levels-eq0
linked-returns-then-levels-eq0 t c =
    let find = finds_in c.args.library.now in
    ok_same _ _ _
    (sym (ap (λ l. linked find l (home_seen c.args.home) c.args.around.now (view c.args.value.now)) c.if-levels-eq0.true
    ∙ linked_deep find (home_seen c.args.home) c.args.around.now (view c.args.value.now) (sym c.is_workflow.ensures ∙ c.if-is_workflow.true)))
    c.nothing.ensures

pub linked-returns-then-is_workflow : goal.linked-returns-then-is_workflow
linked-returns-then-is_workflow t c =
    ap process.Workflow c.in_ok-workflow.ensures
    ∙ sym (linked_workflow (finds_in c.args.library.now) c.args.levels (home_seen c.args.home) c.args.around.now (view c.args.value.now) c.if-levels-eq0.false (sym c.is_workflow.ensures ∙ c.if-is_workflow.true))

pub linked-returns : goal.linked-returns
linked-returns t c =
    ap process.Tool c.in_ok-own_tool.ensures
    ∙ sym (linked_tool (finds_in c.args.library.now) c.args.levels (home_seen c.args.home) c.args.around.now (view c.args.value.now) (sym c.is_workflow.ensures ∙ c.if-is_workflow.false))

pub linked_steps-linked_step-requires : goal.linked_steps-linked_step-requires
linked_steps-linked_step-requires t c = (
  omega arith,
  (
    assumption c.requires,
    entry_is_of kind.Step (view c.args.value.now) c.in_ok-found.found.items c.as_slice-entry-items.result.now c.loop-entry.entry-index c.entry-item.result (assumption c.requires)
        c.as_slice-entry-items.ensures.value c.in_ok-found.ensures.value c.loop-entry-test.true c.entry-item.is,
  ),
)

pub linked_steps-from_distinct-requires : goal.linked_steps-from_distinct-requires
linked_steps-from_distinct-requires t c =
    let find = finds_in c.args.library.now in
    made_differ (step_in (linked find c.args.levels) find (home_seen c.args.home) c.args.id.now c.args.around.now) _ c.loop-entry.made.items _ c.loop-entry.invariant
    (seen_differ kind.Step (view c.args.value.now) c.in_ok-found.found.items c.as_slice-entry-items.result.now c.as_slice-entry-items.ensures.value c.in_ok-found.ensures.value (c.in_ok-found.ensures.ids (assumption c.requires)))

pub run_at-run_in-requires : goal.run_at-run_in-requires
run_at-run_in-requires t c = (
  omega arith,
  (c.requires.processes, subst (MayHaveForm form.Run) (sym c.in-Some.ensures) (step_run (view c.args.value.now) c.requires.step)),
)

pub steps_at-from_distinct-requires : goal.steps_at-from_distinct-requires
steps_at-from_distinct-requires t c = none_differ _ c.new.ensures.items

pub steps_at-linked_steps-requires : goal.steps_at-linked_steps-requires
steps_at-linked_steps-requires t c = (
  omega arith,
  (c.requires.processes, subst (MayHaveForm (form.Objects kind.Step)) (sym c.in-Some.ensures) (workflow_steps (view c.args.value.now) c.requires.workflow)),
)

pub steps_at-returns : goal.steps_at-returns
steps_at-returns t c =
    let find = finds_in c.args.library.now in
    ok_same _ _ _
    (ap (λ asked. stepped (step_in (linked find c.args.levels) find (home_seen c.args.home) c.own_id.result.now asked) (entries kind.Step (view c.in-Some.found.now))) c.in_ok-asked.ensures
    ∙ ap (λ id. stepped (step_in (linked find c.args.levels) find (home_seen c.args.home) id (asked_in c.args.around.now (view c.args.value.now))) (entries kind.Step (view c.in-Some.found.now))) c.own_id.ensures
    ∙ ap (λ o. option_map_or (λ v. stepped (step_in (linked find c.args.levels) find (home_seen c.args.home) (own_id (view c.args.value.now)) (asked_in c.args.around.now (view c.args.value.now))) (entries kind.Step v)) o []) c.in-Some.ensures)
    c.linked_steps.ensures
