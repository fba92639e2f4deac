use Rattle.std.proofs.Common.{rules, ◌≡◌, sym, ap, subst, ◌∙◌, arith, []}
use Rattle.std.specs.Option.{option_map_or}
use Rattle.serde_json.specs.Data.{null}
use Rattle.serde_json.specs.View.{view}
use Rattle.serde_json.specs.declared.value.Value.{the_lemmas}
use Rattle.serde_json.specs.declared.value.Value as json
use Rattle.cwl_process.specs.Tools.{tool_in}
use Rattle.document_table.specs.Entries.{MayHaveForm, entries}
use Rattle.document_table.specs.declared.form.Form.TheVariants as form
use Rattle.document_table.specs.declared.form.Kind.TheVariants as kind
use Rattle.cwl_process.specs.Acting.{asked_in}
use Rattle.cwl_process.specs.Processes.{process_in, step_in}
use Rattle.cwl_process.specs.Workflows.{own_id}
use Rattle.cwl_process.specs.declared.process.Process as process
use Rattle.cwl_process.proofs.Forms.{entry_is_of, made_differ, none_differ, seen_differ, workflow_steps}
use Rattle.cwl_process.proofs.Levels.{at_nothing, at_tool, at_workflow, ok_same, stepped}
use Rattle.cwl_process.proofs.read_workflow.+process.Goals as goal

pub read_process-returns-then-levels-eq0 : goal.read_process-returns-then-levels-eq0
read_process-returns-then-levels-eq0 t c =
    let empty : view json.Null ≡ null = search (rules, the_lemmas) in
    ap process.Tool (c.in_ok-read_tool.ensures ∙ ap (tool_in c.args.around.now) empty)
    ∙ sym (ap (λ n. process_in n c.args.around.now (view c.args.value.now)) c.if-levels-eq0.true ∙ at_nothing c.args.around.now (view c.args.value.now))

pub read_process-returns-then-is_workflow : goal.read_process-returns-then-is_workflow
read_process-returns-then-is_workflow t c =
    ap process.Workflow c.in_ok-read_workflow.ensures
    ∙ sym (at_workflow c.args.levels c.args.around.now (view c.args.value.now) c.if-levels-eq0.false (sym c.is_workflow.ensures ∙ c.if-is_workflow.true))

pub read_process-returns : goal.read_process-returns
read_process-returns t c =
    ap process.Tool c.in_ok-read_tool-2.ensures
    ∙ sym (at_tool c.args.levels c.args.around.now (view c.args.value.now) c.if-levels-eq0.false (sym c.is_workflow.ensures ∙ c.if-is_workflow.false))

pub read_steps-read_step-requires : goal.read_steps-read_step-requires
read_steps-read_step-requires t c = (
  omega arith,
  entry_is_of kind.Step (view c.args.value.now) c.in_ok-found.found.items c.as_slice-entry-items.result.now c.loop-entry.entry-index c.entry-item.result (assumption c.requires)
      c.as_slice-entry-items.ensures.value c.in_ok-found.ensures.value c.loop-entry-test.true c.entry-item.is,
)

pub read_steps-from_distinct-requires : goal.read_steps-from_distinct-requires
read_steps-from_distinct-requires t c =
    made_differ (step_in (process_in c.args.levels) c.args.id.now c.args.around.now) _ c.loop-entry.made.items _ c.loop-entry.invariant
    (seen_differ kind.Step (view c.args.value.now) c.in_ok-found.found.items c.as_slice-entry-items.result.now c.as_slice-entry-items.ensures.value c.in_ok-found.ensures.value (c.in_ok-found.ensures.ids (assumption c.requires)))

pub steps_at-from_distinct-requires : goal.steps_at-from_distinct-requires
steps_at-from_distinct-requires t c = none_differ _ c.new.ensures.items

pub steps_at-read_steps-requires : goal.steps_at-read_steps-requires
steps_at-read_steps-requires t c = (omega arith, subst (MayHaveForm (form.Objects kind.Step)) (sym c.in-Some.ensures) (workflow_steps (view c.args.value.now) c.requires))

pub steps_at-returns : goal.steps_at-returns
steps_at-returns t c =
    ok_same _ _ _
    (ap (λ asked. stepped (step_in (process_in c.args.levels) c.own_id.result.now asked) (entries kind.Step (view c.in-Some.found.now))) c.in_ok-asked.ensures
    ∙ ap (λ id. stepped (step_in (process_in c.args.levels) id (asked_in c.args.around.now (view c.args.value.now))) (entries kind.Step (view c.in-Some.found.now))) c.own_id.ensures
    ∙ ap (λ o. option_map_or (λ v. stepped (step_in (process_in c.args.levels) (own_id (view c.args.value.now)) (asked_in c.args.around.now (view c.args.value.now))) (entries kind.Step v)) o []) c.in-Some.ensures)
    c.read_steps.ensures
