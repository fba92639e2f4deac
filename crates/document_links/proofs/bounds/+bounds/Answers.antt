use Rattle.std.proofs.Common.{Ok, sym, ap, map, ◌∙◌, codes}
use Rattle.std.specs.Option.{option_map_or}
use Rattle.std.proofs.lemmas.Result.{err_from_is_err_and}
use Rattle.serde_json.specs.Find.{get}
use Rattle.serde_json.specs.View.{view}
use Rattle.document_table.specs.Entries.{entries, entry_seen}
use Rattle.document_table.specs.declared.form.Kind.TheVariants as kind
use Rattle.document_links.specs.Bounds.{at_target, left, run_left, steps_left}
use Rattle.document_links.specs.Homes.{home, home_seen}
use Rattle.document_links.specs.Targets.{leads_in}
use Rattle.document_links.specs.Walks.{elsewhere, within}
use Rattle.document_links.proofs.Counted.{left_deep, left_tool, left_workflow, no_room, run_item, steps_stop}
use Rattle.document_links.proofs.Results.{err_by, ok_by, own_error_by, unchecked}
use Rattle.document_links.proofs.bounds.+bounds.Goals as goal

pub left-returns-then-room-eq0-clause-err : goal.left-returns-then-room-eq0-clause-err
left-returns-then-room-eq0-clause-err t c =
    let leads = leads_in c.args.library.now in
    ap (λ r. left leads c.args.levels r (home_seen c.args.home) (view c.args.value.now)) c.if-room-eq0.true ∙ no_room leads c.args.levels (home_seen c.args.home) (view c.args.value.now)

pub left-returns-then-levels-eq0-clause-err : goal.left-returns-then-levels-eq0-clause-err
left-returns-then-levels-eq0-clause-err t c =
    let leads = leads_in c.args.library.now in
    ap (λ l. left leads l c.args.room (home_seen c.args.home) (view c.args.value.now)) c.if-levels-eq0.true
    ∙ left_deep leads c.args.room (home_seen c.args.home) (view c.args.value.now) c.if-room-eq0.false (sym c.is_workflow.ensures ∙ c.if-is_workflow.true)

pub left-returns-then-is_workflow-clause-ok : goal.left-returns-then-is_workflow-clause-ok
left-returns-then-is_workflow-clause-ok t c =
    ok_by _ (λ n. n) _ _
    (left_workflow (leads_in c.args.library.now) c.args.levels c.args.room (home_seen c.args.home) (view c.args.value.now) c.if-levels-eq0.false c.if-room-eq0.false (sym c.is_workflow.ensures ∙ c.if-is_workflow.true))
    c.workflow_left.ensures.ok

pub left-returns-then-is_workflow-clause-err : goal.left-returns-then-is_workflow-clause-err
left-returns-then-is_workflow-clause-err t c =
    err_by _ _ _
    (left_workflow (leads_in c.args.library.now) c.args.levels c.args.room (home_seen c.args.home) (view c.args.value.now) c.if-levels-eq0.false c.if-room-eq0.false (sym c.is_workflow.ensures ∙ c.if-is_workflow.true))
    c.workflow_left.ensures.err

pub left-returns-clause-ok : goal.left-returns-clause-ok
left-returns-clause-ok t c =
    left_tool (leads_in c.args.library.now) c.args.levels c.args.room (home_seen c.args.home) (view c.args.value.now) c.if-room-eq0.false (sym c.is_workflow.ensures ∙ c.if-is_workflow.false)
    ∙ unchecked _ _ c.in_ok-check_defaults.ensures.ok

pub left-returns-in_err-check_defaults-clause-err : goal.left-returns-in_err-check_defaults-clause-err
left-returns-in_err-check_defaults-clause-err t c =
    let p = err_from_is_err_and c.from_residual.result c.from_residual.ensures.1 in
    rw (p.1, p.2)
    (own_error_by _ _ _ _
    (left_tool (leads_in c.args.library.now) c.args.levels c.args.room (home_seen c.args.home) (view c.args.value.now) c.if-room-eq0.false (sym c.is_workflow.ensures ∙ c.if-is_workflow.false))
    c.in_err-check_defaults.ensures.err)

pub workflow_left-returns-clause-err : goal.workflow_left-returns-clause-err
workflow_left-returns-clause-err t c =
    let leads = leads_in c.args.library.now in
    let all = option_map_or (λ v. steps_left (left leads c.args.levels) leads c.args.room (home_seen c.args.home) (entries kind.Step v)) (get (codes "steps") (view c.args.value.now)) (Ok c.args.room) in
    err_by _ _ _
    (unchecked _ (within (codes "steps") all) c.in_ok-check_defaults.ensures.ok)
    (c.within.ensures.err all
    (err_by _ _ _
    (sym (ap (steps_left (left leads c.args.levels) leads c.args.room (home_seen c.args.home)) (ap (map entry_seen) c.as_slice.ensures.value ∙ c.in_ok-all.ensures.value)
    ∙ ap (λ o. option_map_or (λ v. steps_left (left leads c.args.levels) leads c.args.room (home_seen c.args.home) (entries kind.Step v)) o (Ok c.args.room)) c.in-Some.ensures))
    c.steps_left-left.ensures.err))

pub step_left-returns-clause-err : goal.step_left-returns-clause-err
step_left-returns-clause-err t c =
    let leads = leads_in c.args.library.now in
    let ran = option_map_or (run_left (left leads c.args.levels) leads c.args.room (home_seen c.args.home)) (get (codes "run") (view c.args.value.now)) (Ok c.args.room) in
    err_by _ _ _
    (unchecked _ (within (codes "run") ran) c.in_ok-check_defaults.ensures.ok)
    (c.within.ensures.err ran
    (err_by _ _ _
    (sym (ap (λ o. option_map_or (run_left (left leads c.args.levels) leads c.args.room (home_seen c.args.home)) o (Ok c.args.room)) c.in-Some.ensures))
    c.run_left-left.ensures.err))

pub steps_left-returns-in_err-still-clause-err : goal.steps_left-returns-in_err-still-clause-err
steps_left-returns-in_err-still-clause-err t c =
    let p = err_from_is_err_and c.from_residual.result c.from_residual.ensures.1 in
    let leads = leads_in c.args.library.now in
    rw (p.1, p.2)
    (steps_stop (left leads c.args.levels) leads c.loop-entry.still c.args.room (home_seen c.args.home) c.args.all.now c.loop-entry.entry-index c.entry-item.result _
    c.loop-entry-test.true c.entry-item.is c.loop-entry.invariant
    (c.in_err-still.ensures.err _ c.step_left-left.ensures.err))

pub document_left-returns-clause-ok : goal.document_left-returns-clause-ok
document_left-returns-clause-ok t c =
    let d = view c.in_ok-url.document.now.json in
    let next = left (leads_in c.args.library.now) c.args.levels c.args.room in
    let h = home c.in_ok-url.url d in
    ok_by _ (λ n. n) _ _
    (ap (λ at. at_target at next) c.in_ok-url.ensures.ok ∙ sym (ap (λ p. elsewhere c.in_ok-url.url p.index (next h p.process)) c.root-root.ensures))
    (c.elsewhere.ensures.ok (next h (view c.root-root.result.process.now)) c.left-left.ensures.ok)

pub document_left-returns-clause-err : goal.document_left-returns-clause-err
document_left-returns-clause-err t c =
    let d = view c.in_ok-url.document.now.json in
    let next = left (leads_in c.args.library.now) c.args.levels c.args.room in
    let h = home c.in_ok-url.url d in
    err_by _ _ _
    (ap (λ at. at_target at next) c.in_ok-url.ensures.ok ∙ sym (ap (λ p. elsewhere c.in_ok-url.url p.index (next h p.process)) c.root-root.ensures))
    (c.elsewhere.ensures.err (next h (view c.root-root.result.process.now)) c.left-left.ensures.err)

pub item_left-returns-clause-err : goal.item_left-returns-clause-err
item_left-returns-clause-err t c =
    let next = left (leads_in c.args.library.now) c.args.levels c.args.room in
    err_by _ _ _
    (ap (λ at. at_target at next) c.in_ok-item.ensures.ok)
    (c.elsewhere.ensures.err (next (home_seen c.args.home) (view c.in_ok-item.item.process.now)) c.left-left.ensures.err)

pub run_left-returns-then-has_hash-clause-err : goal.run_left-returns-then-has_hash-clause-err
run_left-returns-then-has_hash-clause-err t c =
    err_by _ _ _
    (run_item (left (leads_in c.args.library.now) c.args.levels) c.args.library.now c.args.room (home_seen c.args.home) (view c.args.value.now) c.in-Some.name.now (sym c.in-Some.ensures)
    (sym c.has_hash.ensures ∙ c.if-has_hash.true))
    c.item_left.ensures.err
